use Rattle.pol_update.proofs.Takes.{line_by}
use Rattle.pol_update.proofs.plan.Plan.add_line.Goals as goal

pub returns : goal.returns
returns c = line_by c.add.result c.args.id.now c.find.result c.args.line.now c.args.self.now c.add.new.self c.find.ensures.well_formed c.find.ensures.found c.is_none.ensures c.if-is_none.false
    c.requires.fits (rw c.in_ok-line.ensures at c.add.ensures.added)
