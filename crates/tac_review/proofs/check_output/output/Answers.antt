use Rattle.std.proofs.Common.{Ok, Err, refl}
use Rattle.tac_review.specs.Check.{Prints}
use Rattle.tac_review.specs.Judged.{refusal_line}
use Rattle.tac_review.specs.declared.checking.CheckEnd.TheVariants.{Refused}
use Rattle.tac_review.proofs.OnlyFacts.{ok_so, equal_only, judged_only}
use Rattle.tac_review.proofs.check_output.output.Goals as goal

pub returns-in-Ok : goal.returns-in-Ok
returns-in-Ok c =
    let at = c.in_ok-live.ensures in
    ok_so c.report.result
    (λ output reported. judged_only c.args.text.now (Ok c.in-Ok.live) Prints output.0.items output.1 (rw c.in-Ok.is at at.found) (rw c.in-Ok.is at at.only) reported)
    c.report.ensures

pub returns-in_ok-line-in-Err : goal.returns-in_ok-line-in-Err
returns-in_ok-line-in-Err c =
    let at = c.in_ok-live.ensures in
    let line = c.in_ok-line-in-Err in
    judged_only c.args.text.now (Err c.in-Err.refusal) Prints line.line.items Refused (rw c.in-Err.is at at.found) (rw c.in-Err.is at at.only)
    (equal_only (refusal_line c.in-Err.refusal) line.line.items Refused Refused line.ensures refl)
