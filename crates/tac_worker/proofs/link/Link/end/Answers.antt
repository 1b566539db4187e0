use Rattle.std.proofs.Common.{subst}
use Rattle.tac_worker.specs.Linked.{StandsSo}
use Rattle.tac_worker.specs.Ahead.{seen_by}
use Rattle.tac_worker.proofs.LinkFacts.{stands_so}
use Rattle.tac_worker.proofs.link.Link.end.Goals as goal

pub returns-clause-stands : goal.returns-clause-stands
returns-clause-stands g c =
    subst (λ link. StandsSo g.C.Caller.refuses g.V.Witness.takes g.V.Witness.refuses c.self.inside.end link) c.self.view_is
    (stands_so g.C.Caller.refuses g.V.Witness.takes g.V.Witness.refuses c.self.inside.end _ (seen_by c.self.inside.ahead c.self.inside.stream) c.self.invariant.linked)
