use Rattle.tac_worker.proofs.BoardFacts.{begins}
use Rattle.tac_worker.proofs.switchboard.Switchboard.new.Goals as goal

pub invariant_of-result : goal.invariant_of-result
invariant_of-result g c =
    rw (c.of.ensures, c.new.ensures.empty, c.new.ensures.first_key, c.new-2.ensures)
    (begins g.C.Caller.makes g.C.Caller.rests g.C.Caller.refuses g.V.Witness.takes g.V.Witness.refuses g.met.C.Caller.rests_so c.args.caller)
