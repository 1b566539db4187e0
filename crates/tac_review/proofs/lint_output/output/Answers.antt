use Rattle.std.proofs.Common.{Ok, Err, refl}
use Rattle.tac_review.specs.declared.linting.LintEnd.TheVariants.{Refused}
use Rattle.tac_review.proofs.OnlyFacts.{ok_so}
use Rattle.tac_review.proofs.LintFacts.{lint_only}
use Rattle.tac_review.proofs.lint_output.output.Goals as goal

pub returns-in-Ok : goal.returns-in-Ok
returns-in-Ok c =
    let at = c.in_ok-live.ensures in
    ok_so c.told.result
    (λ output told. lint_only c.args.text.now (Ok c.in-Ok.live) output.0.items output.1 (rw c.in-Ok.is at at.found) (rw c.in-Ok.is at at.only) told)
    c.told.ensures

pub returns-in_ok-printed-in-Err : goal.returns-in_ok-printed-in-Err
returns-in_ok-printed-in-Err c =
    let at = c.in_ok-live.ensures in
    let remarks = c.in_ok-remarks-in-Err in
    let printed = c.in_ok-printed-in-Err in
    lint_only c.args.text.now (Err c.in-Err.refusal) printed.printed.items Refused (rw c.in-Err.is at at.found) (rw c.in-Err.is at at.only)
    (remarks.remarks, remarks.ensures, printed.ensures, refl)
