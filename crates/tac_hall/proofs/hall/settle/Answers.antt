use Rattle.std.proofs.Common.{sym, ap, subst, ◌∙◌}
use Rattle.tac_roll.specs.Roll.{AreGiven}
use Rattle.tac_hall.specs.History.{place_of}
use Rattle.tac_hall.specs.Room.{Standing, IsLawful}
use Rattle.tac_hall.proofs.ClosingFacts.{settled_at}
use Rattle.tac_hall.proofs.hall.settle.Goals as goal

pub returns : goal.returns
returns g c =
    let lawful = subst (λ (s : Standing). IsLawful g.J.Run.opening s.history (g.D.Desk.meaning c.settled.result.desk)) c.compare_all.ensures.same c.settled.ensures.lawful in
    let given = subst (λ (s : Standing). AreGiven c.args.room.seats s.history) (sym c.look.ensures.same) c.look.ensures.given in
    settled_at _ _ _ _ _ _ lawful c.requires.there given c.compare_all.ensures.know (c.settled.ensures.last ∙ ap (λ (s : Standing). place_of s.history) c.compare_all.ensures.same)
