use Rattle.std.proofs.Common.{◌≡◌}
use Rattle.tac_net.proofs.worker.Worker.release.Given as goal

abbrev pub invariant-replies : goal.invariant-replies
invariant-replies g l = l.self ≡ l.fn.self
