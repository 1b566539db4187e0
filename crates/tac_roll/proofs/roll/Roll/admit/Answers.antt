use Rattle.std.proofs.Common.{ap, sym, ◌∙◌}
use Rattle.tac_roll.proofs.Moves.{admits_as}
use Rattle.tac_roll.proofs.roll.Roll.admit.Goals as goal

pub split_seat-requires : goal.split_seat-requires
split_seat-requires g c = (
  ap (λ k. k.roll) c.keeper.view_is ∙ c.requires ∙ sym c.self.view_is,
  c.self.invariant,
  admits_as _ _ _ _ (ap (λ m. m.0) c.keeper.invariant),
)
