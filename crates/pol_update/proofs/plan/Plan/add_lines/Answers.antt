use Rattle.pol_update.proofs.Takes.{line_next, line_fits}
use Rattle.pol_update.proofs.plan.Plan.add_lines.Goals as goal

pub add_line-requires : goal.add_line-requires
add_line-requires c =
    record { fits = line_fits c.args.id.now c.lines.line-index c.args.lines.now c.line-item.result c.args.self.now c.lines.self c.lines-test.true c.line-item.is c.requires.right c.lines.invariant }

pub lines-preserved : goal.lines-preserved
lines-preserved c =
    line_next c.args.id.now c.lines.line-index c.args.lines.now c.line-item.result c.args.self.now c.lines.self c.add_line.new.self c.lines-test.true c.line-item.is c.lines.invariant c.in_ok-add_line.ensures
