use Rattle.std.proofs.Common.{◌≡◌}
use Rattle.tac_hall.specs.Closing.{are_there}
use Rattle.tac_hall.proofs.closing.are_there.Given as goal

abbrev pub invariant-numbers : goal.invariant-numbers
invariant-numbers g l = are_there l.left l.seats ≡ are_there l.fn.numbers l.seats

abbrev pub decreases-numbers : goal.decreases-numbers
decreases-numbers g l = l.left
