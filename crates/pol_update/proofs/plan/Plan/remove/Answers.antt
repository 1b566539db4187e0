use Rattle.pol_update.proofs.Takes.{gone_by}
use Rattle.pol_update.proofs.plan.Plan.remove.Goals as goal

pub returns : goal.returns
returns c = gone_by c.add.result c.args.id.now c.find.result c.args.self.now c.add.new.self c.find.ensures.well_formed c.find.ensures.found c.is_none.ensures c.if-is_none.false c.requires.unused c.add.ensures.added
