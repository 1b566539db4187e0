use Rattle.std.proofs.Common.{◌≡◌, length, All}
use Rattle.tac_hall.specs.Seat.{IsFresh}
use Rattle.tac_net.proofs.opening.places_of.Given as goal

-- a place for each of what was taken
abbrev pub invariant-places : goal.invariant-places
invariant-places g l = (length l.places.items ≡ length l.yielded) × All (λ place. IsFresh place.seat) l.places.items
