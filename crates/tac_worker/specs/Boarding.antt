-- What the fields of a switchboard stand for.
use Rattle.tac_worker.specs.declared.switchboard.Switchboard.TheInside.{Inside}
use Rattle.tac_worker.specs.Board.{Board}

abbrev pub board_of : {C V S : Type 0} → Inside C V S → Board C V S
board_of board = record {
  first = board.first.value;
  caller = board.caller;
  lines = board.lines.slots;
  vacant = board.lines.vacant_key;
  next = board.next;
  over = board.over;
}
