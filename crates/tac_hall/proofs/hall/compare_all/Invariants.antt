use Rattle.std.proofs.Common.{◌≡◌, All}
use Rattle.tac_roll.specs.Roll.{Knows}
use Rattle.tac_hall.proofs.hall.compare_all.Given as goal

-- nothing has changed, and each seat so far has seen a beginning of the history
abbrev pub invariant-seats : goal.invariant-seats
invariant-seats g l = (l.room ≡ l.initial.room) × All (λ seat. Knows l.initial.room.history seat.number seat.seen) l.yielded
