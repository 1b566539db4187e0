use Rattle.std.proofs.Common.{◌≡◌}
use Rattle.tac_net.proofs.worker.Worker.accept.Given as goal

abbrev pub invariant-calls : goal.invariant-calls
invariant-calls g l = l.self ≡ l.fn.self
