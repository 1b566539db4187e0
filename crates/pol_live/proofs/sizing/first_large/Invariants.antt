use Rattle.std.proofs.Common.{take}
use Rattle.pol_meaning.specs.Sizes.{AreSmall}
use Rattle.pol_live.specs.Kept.{AreParts}
use Rattle.pol_live.proofs.sizing.first_large.Given as goal

abbrev pub invariant-loop-at : goal.invariant-loop-at
invariant-loop-at l = record {
  small : AreSmall l.policy (take l.at l.policy);
  right : AreParts l.policy l.parts;
}
