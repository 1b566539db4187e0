use Rattle.std.proofs.Common.{◌≡◌, Some, rules}
use Rattle.tac_worker.specs.Board.{at}
use Rattle.tac_worker.specs.Boarding.{board_of}
use Rattle.tac_worker.proofs.BoardFacts.{set_same}
use Rattle.tac_worker.proofs.switchboard.Switchboard.take_work.Goals as goal

pub invariant_of-self-in_err-work : goal.invariant_of-self-in_err-work
invariant_of-self-in_err-work g c =
    let board = board_of c.self.inside in
    let is : at board.lines c.args.key ≡ Some c.in-Some.line.now = search rules in
    rw (c.take_work.ensures, set_same board.lines c.args.key c.in-Some.line.now is) c.self.invariant
