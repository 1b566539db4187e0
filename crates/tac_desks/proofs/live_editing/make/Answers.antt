use Rattle.tac_desks.proofs.Settling.{settled_meaning, settled_marks}
use Rattle.tac_desks.proofs.live_editing.make.Goals as goal

pub returns-clause-meaning : goal.returns-clause-meaning
returns-clause-meaning c =
    rw c.commit.ensures (settled_meaning c.args.prepared.after c.args.book.now c.settle.new.self c.args.recount c.settle.ensures c.requires.marks c.args.live.now)

pub returns-clause-marks : goal.returns-clause-marks
returns-clause-marks c =
    rw c.commit.ensures (settled_marks c.args.prepared.after c.args.book.now c.settle.new.self c.args.recount c.settle.ensures c.requires.marks)
