use Rattle.std.proofs.Common.{◌≡◌, Some, refl, rules}
use Rattle.tac_worker.specs.Board.{at}
use Rattle.tac_worker.specs.Boarding.{board_of}
use Rattle.tac_worker.proofs.BoardFacts.{set_same}
use Rattle.tac_worker.proofs.switchboard.Switchboard.adopt.Goals as goal

pub invariant_of-self : goal.invariant_of-self
invariant_of-self g c = c.self.invariant

pub returns-clause-unseen : goal.returns-clause-unseen
returns-clause-unseen g c =
    let board = board_of c.self.inside in
    let is : at board.lines c.args.key ≡ Some c.in-Some.line.now = search rules in
    rw (← c.self.view_is, c.adopt.ensures, set_same board.lines c.args.key c.in-Some.line.now is) refl

pub returns-clause-whose : goal.returns-clause-whose
returns-clause-whose g c =
    let board = board_of c.self.inside in
    let is : at board.lines c.args.key ≡ Some c.in-Some.line.now = search rules in
    rw (← c.self.view_is, is, ← c.number.ensures, c.if-number.false) (search rules)
