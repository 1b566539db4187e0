-- Terms whose classes say of each of the 95 symbols whether they hold it, as those of patterns do.
use Rattle.std.specs.Prelude.{◌≡◌, length}
use Rattle.pol_pattern.specs.Flat.{Class, Factor, class, group, star, Term, empty, put, Terms, none}
use Rattle.pol_pattern.specs.Flat.{alt}

abbrev pub IsWhole : Class → Type 0
IsWhole c = length c ≡ 95

-- each class in a part is whole
abbrev mutual
  pub IsWholeFactor : Factor → Type 0
  IsWholeFactor (class c) = IsWhole c
  IsWholeFactor (group terms) = AreWholeTerms terms
  IsWholeFactor (star terms) = AreWholeTerms terms

  pub IsWholeTerm : Term → Type 0
  IsWholeTerm empty = Unit {0}
  IsWholeTerm (put factor term) = IsWholeFactor factor × IsWholeTerm term

  pub AreWholeTerms : Terms → Type 0
  AreWholeTerms none = Unit {0}
  AreWholeTerms (alt term terms) = IsWholeTerm term × AreWholeTerms terms
