use Rattle.std.proofs.Common.{sym}
use Rattle.basics.specs.Lines.{lines_of}
use Rattle.tac_review.specs.Tables.{tells}
use Rattle.tac_review.proofs.TableFacts.{onto_nothing}
use Rattle.tac_review.proofs.table.tell.Goals as goal

pub lines-init : goal.lines-init
lines-init c = rw (c.new-told.ensures, c.new-lines.ensures) (sym (onto_nothing (tells c.args.table c.args.live.now 1 (lines_of c.args.text.now))))
