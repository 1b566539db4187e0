use Rattle.tac_review.proofs.OnlyFacts.{ok_so, diff_continues, edits_continue}
use Rattle.tac_review.proofs.review_output.second.Goals as goal

pub returns-in-Diff : goal.returns-in-Diff
returns-in-Diff c =
    ok_so c.diff.result (λ output only. diff_continues c.args.review c.args.name.now c.args.text.now c.args.live output.0.items output.1 c.in-Diff.is only) c.diff.ensures

pub returns-in-Edits : goal.returns-in-Edits
returns-in-Edits c =
    ok_so c.edits.result (λ output lists. edits_continue c.args.review c.args.name.now c.args.text.now c.args.live output.0.items output.1 c.in-Edits.is lists) c.edits.ensures
