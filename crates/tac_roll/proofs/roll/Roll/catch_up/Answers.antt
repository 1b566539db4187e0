use Rattle.std.proofs.Common.{[], append-nil, ap, sym, ◌∙◌}
use Rattle.tac_roll.specs.Roll.{both}
use Rattle.tac_roll.proofs.Moves.{takes_in_as, adds_as, compares_as}
use Rattle.tac_roll.proofs.roll.Roll.catch_up.Goals as goal

pub join_seat-requires : goal.join_seat-requires
join_seat-requires g c =
    let roll = sym c.self.view_is in (
      ap (λ k. k.roll) c.keeper.view_is ∙ c.requires.0 ∙ roll,
      ap (λ m. m.roll) c.member.view_is ∙ c.requires.1 ∙ roll,
      ap (λ m. m.1) c.member.invariant,
      c.self.invariant,
      takes_in_as _ _ _ _ _ _ _ _ (ap (λ m. m.0) c.keeper.invariant) (ap (λ m. m.0) c.member.invariant),
    )

pub load-requires : goal.load-requires
load-requires g c =
    let j = c.join_seat.ensures in
    let none = ap (λ m. m.1) c.keeper.invariant in (
      j.0 ∙ ap (λ k. k.roll) c.keeper.view_is ∙ c.requires.0 ∙ sym c.self.view_is,
      c.self.invariant,
      compares_as _ _ _ _ _ (j.2 ∙ (λ i. (both c.keeper.inside.seat.me.0 c.member.inside.seat.me.0, none i))),
    )

pub split_seat-requires : goal.split_seat-requires
split_seat-requires g c =
    let j = c.join_seat.ensures in
    let l = c.load.ensures in
    let k = ap (λ m. m.0) c.keeper.invariant in
    let m = ap (λ m. m.0) c.member.invariant in (
      l.0 ∙ j.0 ∙ ap (λ k. k.roll) c.keeper.view_is ∙ c.requires.0 ∙ sym c.self.view_is,
      c.self.invariant,
      adds_as _ _ _ _ _ _ [] (ap (λ x. x.0) l.2.0 ∙ ap (λ x. x.0) j.2 ∙ (λ i. both (k i) (m i))),
    )
