-- The sizes of what was read, up to 401: a pattern of more than 400 factors is refused.
use Rattle.std.specs.Prelude.{min, Bool, true, false}
use Rattle.pol_pattern.specs.Flat.{Term, empty, put, group, term_size, terms_size}
use Rattle.pol_pattern.specs.Reading.{Level}
use Rattle.pol_pattern.specs.declared.sizes.Sizes.{Sizes}

-- the factors are exactly one group
abbrev pub is_one_group : Term → Bool
is_one_group (put (group terms) empty) = true
is_one_group factors = false

abbrev pub size_of : Level → Sizes
size_of level = record {
  done = min 401 (terms_size level.done);
  before = min 401 (term_size level.before);
  last = min 401 (term_size level.last);
  last_is_group = is_one_group level.last;
}
