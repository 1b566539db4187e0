use Rattle.std.proofs.Common.{◌≡◌, ◌++◌, drop}
use Rattle.posix_expression.specs.Writing.{symbols_written}
use Rattle.posix_expression.proofs.writing.write_symbols.Given as goal

abbrev pub invariant-bytes : goal.invariant-bytes
invariant-bytes l = l.out.items ++ symbols_written (drop l.byte-index l.bytes) ≡ l.fn.out.items ++ symbols_written l.bytes
