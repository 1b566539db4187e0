use Rattle.tac_worker.specs.Ahead.{seen_by}
use Rattle.tac_worker.proofs.LinkFacts.{linked_sent}
use Rattle.tac_worker.proofs.link.Link.send.Goals as goal

pub invariant_of-self : goal.invariant_of-self
invariant_of-self g c = record {
  linked =
      rw (c.add.ensures, c.advance.ensures)
      (linked_sent g.C.Caller.refuses g.V.Witness.takes g.V.Witness.refuses c.in_ok-n.n c.self.inside.end _ (seen_by c.self.inside.ahead c.self.inside.stream) c.self.invariant.linked);
  ahead = c.self.invariant.ahead;
  due = c.self.invariant.due;
  password = c.self.invariant.password;
}
