use Rattle.pol_text.specs.Policy.{ends_within}
use Rattle.pol_live.proofs.FillFacts.{all_at}
use Rattle.pol_live.proofs.building.fill_subject.Goals as goal

pub fill-requires-clause-ends : goal.fill-requires-clause-ends
fill-requires-clause-ends c subject here = all_at (ends_within 8 c.args.policy.now) c.args.policy.now c.args.index subject c.requires.well_formed.short here
