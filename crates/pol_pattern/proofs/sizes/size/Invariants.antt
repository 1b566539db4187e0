use Rattle.std.proofs.Common.{◌≡◌, List, [], drop}
use Rattle.pol_pattern.specs.Reading.{Level, fresh, build}
use Rattle.pol_pattern.specs.Sizes.{size_of}
use Rattle.pol_pattern.proofs.Levels.{stacked}
use Rattle.pol_pattern.proofs.sizes.size.Given as goal

-- the sizes are those of levels, from which the tokens that are left make the flat form
abbrev pub invariant-tokens : goal.invariant-tokens
invariant-tokens l = record {
  level : Level;
  outer : List Level;
  size : l.level ≡ size_of level;
  stack : l.outer.items ≡ stacked size_of outer;
  so_far : build level outer (drop l.token-index l.tokens) ≡ build fresh [] l.tokens;
}
