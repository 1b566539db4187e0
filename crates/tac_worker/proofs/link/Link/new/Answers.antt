use Rattle.std.proofs.Common.{refl}
use Rattle.tac_worker.proofs.AheadFacts.{kept_bare}
use Rattle.tac_worker.proofs.LinkFacts.{linked_first}
use Rattle.tac_worker.proofs.link.Link.new.Goals as goal

pub invariant_of-result : goal.invariant_of-result
invariant_of-result g c =
    kept_bare g.C.Caller.refuses g.V.Witness.takes g.V.Witness.refuses _ refl (λ e. absurd cc)
    (rw (c.of.ensures, c.new-2.ensures, c.new-3.ensures, c.new-4.ensures, c.new-5.ensures)
    (linked_first g.C.Caller.refuses g.V.Witness.takes g.V.Witness.refuses c.args.terms.now.door.now c.args.witness c.of-2.result.value c.new.result c.new.ensures.ready (c.new.ensures.stands c.args.terms.now.door.now)))
