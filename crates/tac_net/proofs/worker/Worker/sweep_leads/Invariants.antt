use Rattle.std.proofs.Common.{◌≡◌}
use Rattle.tac_net.proofs.worker.Worker.sweep_leads.Given as goal

abbrev pub invariant-keys : goal.invariant-keys
invariant-keys g l = l.self ≡ l.fn.self
