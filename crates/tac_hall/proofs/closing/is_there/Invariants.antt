use Rattle.std.proofs.Common.{◌≡◌, drop}
use Rattle.tac_hall.specs.Closing.{is_there}
use Rattle.tac_hall.proofs.closing.is_there.Given as goal

abbrev pub invariant-seats : goal.invariant-seats
invariant-seats g l = is_there l.number (drop l.seat-index l.seats) ≡ is_there l.number l.seats
