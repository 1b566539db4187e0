use Rattle.std.proofs.Common.{◌≡◌, ◌++◌, refl, rules}
use Rattle.tac_console.specs.Reports.{shadows_text}
use Rattle.tac_review.specs.Check.{ok_line}
use Rattle.tac_review.specs.declared.checking.CheckEnd.TheVariants.{Sound}
use Rattle.tac_review.proofs.CheckFacts.{report_only}
use Rattle.tac_review.proofs.check_output.report.Goals as goal

pub returns : goal.returns
returns c =
    let rows = c.in_ok-rows in
    let printed : c.write_shadows.new.out.items ≡ ok_line c.args.live.now ++ shadows_text rows.rows = search rules in
    report_only c.args.live.now rows.rows c.write_shadows.new.out.items Sound rows.ensures.found rows.ensures.only printed refl
