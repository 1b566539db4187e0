use Rattle.std.proofs.Common.{◌≡◌, ◌-◌, length}
use Rattle.posix_expression.specs.Reading.{start, read_within}
use Rattle.posix_expression.specs.Trees.{state_of}
use Rattle.posix_expression.proofs.reading.read_tree.Given as goal

abbrev pub invariant-steps : goal.invariant-steps
invariant-steps l = read_within (length l.text - l._step) (state_of l.reading) l.rest ≡ read_within (length l.text) start l.text
