use Rattle.tac_worker.proofs.ToldFacts.{replies_law}
use Rattle.tac_worker.proofs.laws.told_law.Goals as goal

pub returns : goal.returns
returns c = replies_law
