use Rattle.sha2.specs.Hashers.{Holds512}
use Rattle.sha_crypt.specs.Crypt.{times}
use Rattle.sha_crypt.proofs.digest.digest_of_times.Given as goal

abbrev pub invariant-times : goal.invariant-times
invariant-times l = Holds512 l.hasher (times l.text l.i)
