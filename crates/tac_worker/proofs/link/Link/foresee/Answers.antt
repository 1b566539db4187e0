use Rattle.std.proofs.Common.{sym, ap, refl, ◌∙◌}
use Rattle.tac_worker.specs.Linked.{due_of}
use Rattle.tac_worker.proofs.AheadFacts.{kept_ahead}
use Rattle.tac_worker.proofs.LinkFacts.{turn_due}
use Rattle.tac_worker.proofs.link.Link.foresee.Goals as goal

pub invariant_of-self : goal.invariant_of-self
invariant_of-self g c =
    let due = turn_due _ _ _ (ap due_of c.self.view_is ∙ sym c.due.ensures ∙ c.in-Turn.is) in
    kept_ahead g.C.Caller.refuses g.V.Witness.takes g.V.Witness.refuses c.self.inside _ c.self.invariant due.2 refl refl c.look_ahead.ensures.same c.look_ahead.ensures.ahead refl c.of-self-inside.ensures
