use Rattle.std.proofs.Common.{Ok, Err}
use Rattle.tac_review.specs.Judged.{refusal_line}
use Rattle.tac_review.specs.Review.{DiffsTo, named}
use Rattle.tac_review.specs.declared.task.Input.TheVariants.{Second}
use Rattle.tac_review.specs.declared.task.ReviewEnd.TheVariants.{BadPolicy}
use Rattle.tac_review.proofs.OnlyFacts.{ok_so, equal_only, judged_only}
use Rattle.tac_review.proofs.review_output.diff.Goals as goal

pub returns-in-Ok : goal.returns-in-Ok
returns-in-Ok c =
    let at = c.in_ok-new.ensures in
    ok_so c.differ.result
    (λ output only. judged_only c.args.text.now (Ok c.in-Ok.new) (DiffsTo c.args.name.now c.args.old.now) output.0.items output.1 (rw c.in-Ok.is at at.found) (rw c.in-Ok.is at at.only)
    (record { wanted = only.wanted; only = only.only }))
    c.differ.ensures

pub returns-in-Err : goal.returns-in-Err
returns-in-Err c =
    let at = c.in_ok-new.ensures in
    ok_so c.refused_text.result
    (λ output told. judged_only c.args.text.now (Err c.in-Err.refusal) (DiffsTo c.args.name.now c.args.old.now) output.0.items output.1 (rw c.in-Err.is at at.found) (rw c.in-Err.is at at.only)
    (equal_only (named c.args.name.now (refusal_line c.in-Err.refusal)) output.0.items (BadPolicy Second) output.1 told.0 told.1))
    c.refused_text.ensures
