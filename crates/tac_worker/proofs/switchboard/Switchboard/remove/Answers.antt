use Rattle.std.proofs.Common.{sym, ◌∙◌}
use Rattle.tac_worker.specs.Boarding.{board_of}
use Rattle.tac_worker.proofs.BoardFacts.{closed}
use Rattle.tac_worker.proofs.switchboard.Switchboard.remove.Goals as goal

pub invariant_of-self-2 : goal.invariant_of-self-2
invariant_of-self-2 g c =
    let r = c.try_remove.ensures in
    rw c.add.ensures
    (closed g.C.Caller.makes g.C.Caller.rests g.C.Caller.refuses g.V.Witness.takes g.V.Witness.refuses (board_of c.self.inside) c.try_remove.new.self.slots c.try_remove.new.self.vacant_key c.args.key c.in-Some.line c.self.invariant (sym r.value ∙ c.in-Some.is)
    r.updates.changed r.updates.others)
