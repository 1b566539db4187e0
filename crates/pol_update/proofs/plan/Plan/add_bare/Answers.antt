use Rattle.pol_update.proofs.Takes.{added_turned}
use Rattle.pol_update.proofs.plan.Plan.add_bare.Goals as goal

pub returns : goal.returns
returns c = added_turned c.add.result c.args.kind c.args.name c.args.self.now c.add.new.self c.add.ensures.well_formed c.requires.absent c.requires.room (rw c.bare_edit.ensures at c.add.ensures.added)
