use Rattle.std.proofs.Common.{◌∙◌, ap, sym, take_all}
use Rattle.std.specs.List.{list_any}
use Rattle.pol_given.specs.Given.{is_about}
use Rattle.pol_report.proofs.AskingFacts.{silent_more}
use Rattle.pol_report.proofs.asking.mark_named.Goals as goal

pub loop-line-preserved : goal.loop-line-preserved
loop-line-preserved c = (
  c.mark.ensures.length,
  λ service place at none.
      let now = c.mark.ensures.marked service place at none in
      let before = c.loop-line.invariant.1 service place at now.0 in
      (before.0, silent_more service c.args.lines.now c.loop-line.line-index c.line-item.result c.loop-line-test.true c.line-item.is before.1 now.1),
)

pub returns-clause-marked : goal.returns-clause-marked
returns-clause-marked c = λ service place at none.
    let before = c.loop-line.invariant.1 service place at none in
    (before.0, ap (list_any (is_about service)) (sym (take_all c.loop-line.line-index c.args.lines.now c.loop-line-test.false)) ∙ before.1)
