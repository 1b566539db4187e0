-- What a level of the code represents.
use Rattle.std.specs.Prelude.{◌≡◌, ◌≤◌}
use Rattle.pol_pattern.specs.Flat.{term_size, terms_size, term_value, terms_value}
use Rattle.pol_pattern.specs.Reading.{Level}
use Rattle.pol_pattern.specs.Sizes.{size_of}
use Rattle.pol_pattern.specs.declared.building.Level.{Level as LevelValue}

-- the code has the sizes of the level, and each part of it that has at most 400 factors
pub record Represents (code : LevelValue) (level : Level) : Type 0 where
  pub sizes : code.sizes ≡ size_of level
  pub done : terms_size level.done ≤ 400 → terms_value code.done.items ≡ level.done
  pub before : term_size level.before ≤ 400 → term_value code.before.items ≡ level.before
  pub last : term_size level.last ≤ 400 → term_value code.last.items ≡ level.last
  -- what the last token wrote out
  pub written : term_size (term_value code.last.items) ≤ 400
