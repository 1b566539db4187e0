use Rattle.std.proofs.Common.{◌≡◌}
use Rattle.tac_net.proofs.worker.Worker.adopt.Given as goal

abbrev pub invariant-passwords : goal.invariant-passwords
invariant-passwords g l = l.self ≡ l.fn.self
