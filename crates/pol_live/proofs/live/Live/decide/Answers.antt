use Rattle.pol_meaning.proofs.DecidingFacts.{decision_law}
use Rattle.pol_live.proofs.live.Live.decide.Goals as goal

pub returns-in_default-clause-law : goal.returns-in_default-clause-law
returns-in_default-clause-law c = decision_law

pub returns-clause-law : goal.returns-clause-law
returns-clause-law c = decision_law
