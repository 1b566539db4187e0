use Rattle.pol_update.proofs.Phases.{updated}
use Rattle.pol_update.proofs.plain.plain.Goals as goal

pub returns : goal.returns
returns c = rw c.into_edits.ensures (updated c.args.old.now c.args.new.now c.settle.new.plan c.in_ok-settle.ensures)
