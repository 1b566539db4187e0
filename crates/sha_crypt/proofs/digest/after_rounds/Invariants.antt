use Rattle.std.proofs.Common.{◌≡◌}
use Rattle.sha_crypt.specs.Crypt.{after_rounds}
use Rattle.sha_crypt.proofs.digest.after_rounds.Given as goal

abbrev pub invariant-rounds : goal.invariant-rounds
invariant-rounds l = l.digest ≡ after_rounds l.p l.s l.start l.i
