use Rattle.std.proofs.Common.{◌≡◌, ◌++◌}
use Rattle.tac_net.proofs.ending.add_seats.Given as goal

-- the seats so far were added to those that were there
abbrev pub invariant-workers : goal.invariant-workers
invariant-workers g l = l.seats.items ≡ l.fn.seats.items ++ l.yielded
