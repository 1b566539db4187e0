use Rattle.std.proofs.Common.{List, [], ◌∷◌, ◌++◌, refl, ap, ◌∙◌, subst}
use Rattle.tac_hall.specs.Seat.{Seated}
use Rattle.tac_hall.specs.Closing.{IsSettled}
use Rattle.tac_net.proofs.ending.close.Goals as goal

pub returns-in-Ok : goal.returns-in-Ok
returns-in-Ok g c =
    let others : List Seated = c.args.served.items in
    let all = c.in_ok-add_seats.ensures ∙ ap (λ (l : List Seated). l ++ others) (c.in_ok-push.ensures.items ∙ ap (λ (l : List Seated). l ++ c.args.console ∷ []) c.requires) in
    ((g.D.Desk.meaning c.in-Ok.field-0.desk, subst (λ (l : List Seated). IsSettled g.J.Run.opening (g.D.Desk.meaning c.in-Ok.field-0.desk) l) all c.in-Ok.ensures.settled.settled), refl)
