use Rattle.std.proofs.Common.{◌≡◌, List, [], drop}
use Rattle.pol_pattern.specs.Reading.{Level, fresh, build}
use Rattle.pol_pattern.specs.Levels.{Represents}
use Rattle.pol_pattern.proofs.Written.{Stacked}
use Rattle.pol_pattern.proofs.building.build.Given as goal

-- the code has levels from which the tokens that are left make the flat form
abbrev pub invariant-tokens : goal.invariant-tokens
invariant-tokens l = record {
  level : Level;
  outer : List Level;
  same : Represents l.level level;
  stack : Stacked l.outer.items outer;
  so_far : build level outer (drop l.token-index l.tokens) ≡ build fresh [] l.tokens;
}
