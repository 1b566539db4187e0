use Rattle.std.proofs.Common.{sym, ap, ◌∙◌}
use Rattle.tac_worker.specs.Linked.{due_of}
use Rattle.tac_worker.specs.Linking.{connection_of}
use Rattle.tac_worker.proofs.AheadFacts.{kept_bare, linked_bare}
use Rattle.tac_worker.proofs.LinkFacts.{hear_due, as_open, open_still, linked_more, linked_heard}
use Rattle.tac_worker.proofs.link.Link.hear.Goals as goal

pub invariant_of-self : goal.invariant_of-self
invariant_of-self g c =
    let link = connection_of c.self.inside in
    let due = hear_due _ _ _ (ap due_of c.self.view_is ∙ sym c.due.ensures ∙ c.in-Hear.is) in
    let none = c.self.invariant.due due.2 in
    let linked = linked_bare g.C.Caller.refuses g.V.Witness.takes g.V.Witness.refuses c.self.inside none c.self.invariant in
    let opened = as_open g.C.Caller.refuses g.V.Witness.takes g.V.Witness.refuses c.self.inside.end link c.self.inside.stream due.1 linked in
    let noted = rw c.in-Ok.is at c.hear.ensures.noted in
    kept_bare g.C.Caller.refuses g.V.Witness.takes g.V.Witness.refuses _ none c.self.invariant.password
    (rw noted.1
    (open_still g.C.Caller.refuses g.V.Witness.takes g.V.Witness.refuses _ _ _ due.1
    (linked_more g.C.Caller.refuses g.V.Witness.takes g.V.Witness.refuses link noted.0 c.self.inside.stream c.hear.new.stream opened.0 (opened.1 due.2) noted.4)))

pub invariant_of-self-in-Err : goal.invariant_of-self-in-Err
invariant_of-self-in-Err g c =
    let link = connection_of c.self.inside in
    let due = hear_due _ _ _ (ap due_of c.self.view_is ∙ sym c.due.ensures ∙ c.in-Hear.is) in
    let none = c.self.invariant.due due.2 in
    let linked = linked_bare g.C.Caller.refuses g.V.Witness.takes g.V.Witness.refuses c.self.inside none c.self.invariant in
    let opened = as_open g.C.Caller.refuses g.V.Witness.takes g.V.Witness.refuses c.self.inside.end link c.self.inside.stream due.1 linked in
    let noted = rw c.in-Err.is at c.hear.ensures.noted in
    kept_bare g.C.Caller.refuses g.V.Witness.takes g.V.Witness.refuses _ none c.self.invariant.password
    (rw noted.1
    (linked_heard g.C.Caller.refuses g.V.Witness.takes g.V.Witness.refuses link noted.0 c.self.inside.stream c.hear.new.stream opened.0 (opened.1 due.2) c.in-Err.end noted.4))
