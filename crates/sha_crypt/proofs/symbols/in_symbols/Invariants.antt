use Rattle.std.proofs.Common.{◌≡◌, ◌*◌}
use Rattle.arrayvec.specs.ArrayVec.{array_vec_len}
use Rattle.sha_crypt.specs.Crypt.{first_symbols}
use Rattle.sha_crypt.proofs.symbols.in_symbols.Given as goal

abbrev pub invariant-fours : goal.invariant-fours
invariant-fours l = record {
  items : l.text.items ≡ first_symbols l.digest l.i;
  len : array_vec_len l.text ≡ 4 * l.i;
}
