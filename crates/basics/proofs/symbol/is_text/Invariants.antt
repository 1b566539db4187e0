use Rattle.std.proofs.Common.{◌≡◌, ◌≤◌, ◌-◌, true, length, take}
use Rattle.basics.specs.Symbol.{is_text as text_test}
use Rattle.basics.proofs.symbol.is_text.Given as goal

abbrev pub invariant-rest : goal.invariant-rest
invariant-rest l = record {
  within : l.start ≤ length l.bytes;
  front : text_test (take l.start l.bytes) ≡ true;
}

abbrev pub decreases-rest : goal.decreases-rest
decreases-rest l = length l.bytes - l.start
