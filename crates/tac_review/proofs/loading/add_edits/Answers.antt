use Rattle.tac_review.proofs.LineFacts.{lines_more, spelled_next}
use Rattle.tac_review.proofs.loading.add_edits.Goals as goal

pub edits-preserved : goal.edits-preserved
edits-preserved c = record {
  added =
      lines_more c.args.edits.now c.edits.edit-index c.edit-item.result c.args.text.now.items c.edits.text.items c.write_edit.new.out.items c.edits-test.true c.edit-item.is c.edits.invariant.added
      c.in_ok-write_edit.ensures.line;
  spelled = spelled_next c.args.edits.now c.edits.edit-index c.edit-item.result c.edits-test.true c.edit-item.is c.edits.invariant.spelled c.in_ok-write_edit.ensures.spelled;
}
