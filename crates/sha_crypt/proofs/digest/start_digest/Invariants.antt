use Rattle.std.proofs.Common.{◌++◌, length}
use Rattle.sha2.specs.Hashers.{Holds512}
use Rattle.sha_crypt.specs.Crypt.{repeated, by_bits}
use Rattle.sha_crypt.proofs.digest.start_digest.Given as goal

abbrev pub invariant-bits : goal.invariant-bits
invariant-bits l = Holds512 l.hasher (((l.password ++ l.salt) ++ repeated l.first (length l.password)) ++ by_bits l.first l.password (length l.password) l.i)
