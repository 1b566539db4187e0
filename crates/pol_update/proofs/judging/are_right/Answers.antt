use Rattle.pol_update.proofs.Stepping.{next_step, all_steps}
use Rattle.pol_update.proofs.judging.are_right.Goals as goal

pub edits-preserved : goal.edits-preserved
edits-preserved c =
    next_step c.args.old.now c.args.new.now c.edits.made c.take.new.policy c.args.edits.now c.edits.edit-index c.edit-item.result c.subject.result c.is_alike.result c.in_ok-take.field-0
    c.edits.invariant c.edits-test.true c.edit-item.is c.subject.ensures c.is_alike.ensures.alike.1 c.if-is_alike.false c.take.ensures.well_formed c.in_ok-take.ensures.taken c.if-not-branch.false

pub returns : goal.returns
returns c = λ yes. all_steps c.args.old.now c.args.new.now c.edits.made c.args.edits.now c.edits.edit-index c.edits.invariant c.edits-test.false (c.have_same.ensures.0 yes)
