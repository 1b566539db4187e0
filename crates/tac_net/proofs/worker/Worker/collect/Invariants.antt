use Rattle.std.proofs.Common.{◌≡◌}
use Rattle.tac_net.proofs.worker.Worker.collect.Given as goal

abbrev pub invariant-arrivals : goal.invariant-arrivals
invariant-arrivals g l = l.self ≡ l.fn.self
