use Rattle.std.proofs.Common.{ap, sym, ◌∙◌}
use Rattle.tac_roll.proofs.Moves.{compares_as}
use Rattle.tac_roll.proofs.roll.Roll.look.Goals as goal

pub load-requires : goal.load-requires
load-requires g c = (
  ap (λ k. k.roll) c.keeper.view_is ∙ c.requires ∙ sym c.self.view_is,
  c.self.invariant,
  compares_as _ _ _ _ _ c.keeper.invariant,
)
