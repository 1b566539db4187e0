use Rattle.std.proofs.Common.{ap, ◌∙◌}
use Rattle.tac_hall.proofs.HistoryFacts.{fresh}
use Rattle.tac_hall.proofs.room.Room.seat.Goals as goal

pub returns-clause-fresh : goal.returns-clause-fresh
returns-clause-fresh g c =
    let member = c.admit-member.ensures.member in
    let same = c.look.ensures.same in
    fresh _ _ _ _ (ap (λ m. m.number) member ∙ ap (λ k. k.members) same) (ap (λ m. m.seen) member ∙ ap (λ k. k.all) same) c.look.ensures.given
