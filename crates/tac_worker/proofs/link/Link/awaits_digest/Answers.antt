use Rattle.std.proofs.Common.{sym, ap, subst, ◌∙◌}
use Rattle.tac_worker.specs.Linked.{AsksPassword, due_of}
use Rattle.tac_worker.proofs.AheadFacts.{asks_password}
use Rattle.tac_worker.proofs.LinkFacts.{turn_due}
use Rattle.tac_worker.proofs.link.Link.awaits_digest.Goals as goal

pub returns-in-Turn-clause-password : goal.returns-in-Turn-clause-password
returns-in-Turn-clause-password g c = λ waits.
    let due = turn_due _ _ _ (ap due_of c.self.view_is ∙ sym c.due.ensures ∙ c.in-Turn.is) in
    subst (λ link. AsksPassword link) c.self.view_is
    (asks_password g.C.Caller.refuses g.V.Witness.takes g.V.Witness.refuses c.self.inside c.self.invariant due.1 (c.self.invariant.password (sym c.waits.ensures ∙ waits)))
