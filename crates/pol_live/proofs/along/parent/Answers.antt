use Rattle.pol_live.proofs.PlaceFacts.{right_few}
use Rattle.pol_live.proofs.along.parent.Goals as goal

pub returns-clause-few : goal.returns-clause-few
returns-clause-few c = right_few c.parent_of.result c.parent_of.ensures.right
