use Rattle.std.proofs.Common.{◌≡◌}
use Rattle.tac_net.proofs.worker.Worker.answer_all.Given as goal

abbrev pub invariant-events : goal.invariant-events
invariant-events g l = l.self ≡ l.fn.self
