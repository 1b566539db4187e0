use Rattle.std.proofs.Common.{◌≡◌}
use Rattle.tac_net.proofs.worker.work.Given as goal

-- it is the worker that began here
abbrev pub invariant-rounds : goal.invariant-rounds
invariant-rounds g l =
    l.worker ≡ record { first = l.fn.place.seat; settings = l.fn.premises.settings.now; log = l.fn.premises.log.now }
