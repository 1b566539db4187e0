use Rattle.pol_pattern.proofs.HeldTexts.{match_law}
use Rattle.pol_live.proofs.live.Live.decider.Goals as goal

pub returns-in_default-clause-law : goal.returns-in_default-clause-law
returns-in_default-clause-law c = match_law

pub returns-clause-law : goal.returns-clause-law
returns-clause-law c = match_law
