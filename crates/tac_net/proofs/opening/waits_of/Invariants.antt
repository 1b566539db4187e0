use Rattle.std.proofs.Common.{◌≡◌, length}
use Rattle.tac_net.proofs.opening.waits_of.Given as goal

abbrev pub invariant-workers : goal.invariant-workers
invariant-workers g l = length l.waits.items ≡ l.at
