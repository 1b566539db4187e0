use Rattle.std.proofs.Common.{◌≡◌}
use Rattle.arrayvec.specs.ArrayVec.{array_vec_len}
use Rattle.sha_crypt.specs.Crypt.{repeated}
use Rattle.sha_crypt.proofs.digest.repeated.Given as goal

abbrev pub invariant-bytes : goal.invariant-bytes
invariant-bytes l = record {
  items : l.bytes.items ≡ repeated l.digest l.i;
  len : array_vec_len l.bytes ≡ l.i;
}
