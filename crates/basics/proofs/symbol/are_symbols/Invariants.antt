use Rattle.std.proofs.Common.{◌↔◌, ◌≤◌, IsTrue, take}
use Rattle.basics.specs.Symbol.{is_text as text_test}
use Rattle.basics.proofs.symbol.are_symbols.Given as goal

abbrev pub invariant-loop-byte : goal.invariant-loop-byte
invariant-loop-byte l = IsTrue (text_test (take l.byte-index l.bytes)) ↔ (l.furthest ≤ 94)
