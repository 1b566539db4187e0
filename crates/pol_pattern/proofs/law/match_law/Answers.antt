use Rattle.pol_pattern.proofs.HeldTexts.{match_law as held}
use Rattle.pol_pattern.proofs.law.match_law.Goals as goal

pub returns : goal.returns
returns c = held
