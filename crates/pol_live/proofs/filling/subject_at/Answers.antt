use Rattle.pol_live.proofs.PlaceFacts.{got, few_at}
use Rattle.pol_live.proofs.filling.subject_at.Goals as goal

pub returns-clause-found : goal.returns-clause-found
returns-clause-found c = rw (← c.subjects.ensures.subjects) (got c.get.result c.subjects.result.now c.args.index c.get.ensures.lookup.0 c.get.ensures.lookup.1)

pub returns-clause-few : goal.returns-clause-few
returns-clause-few c = few_at c.args.policy.now c.get.result c.args.index c.subjects.ensures.well_formed.right (returns-clause-found c)
