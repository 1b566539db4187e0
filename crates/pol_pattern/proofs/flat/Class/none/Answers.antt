use Rattle.std.proofs.Common.{refl}
use Rattle.pol_pattern.specs.ClassBits.{low_bits}
use Rattle.pol_pattern.specs.Flat.{numbers_from, class_where}
use Rattle.pol_pattern.proofs.flat.Class.none.Goals as goal

pub returns : goal.returns
unfolding low_bits class_where numbers_from
returns c = refl
