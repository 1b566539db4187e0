use Rattle.std.proofs.Common.{◌≡◌, length}
use Rattle.basics.specs.Lines.{without_leading_spaces}
use Rattle.basics.proofs.lines.without_leading_spaces.Given as goal

abbrev pub invariant-loop-rest : goal.invariant-loop-rest
invariant-loop-rest l = without_leading_spaces l.rest ≡ without_leading_spaces l.text

abbrev pub decreases-loop-rest : goal.decreases-loop-rest
decreases-loop-rest l = length l.rest
