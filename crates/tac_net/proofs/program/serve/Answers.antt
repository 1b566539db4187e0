use Rattle.pol_pattern.proofs.HeldTexts.{match_law}
use Rattle.tac_net.proofs.program.serve.Goals as goal

pub returns-clause-matching : goal.returns-clause-matching
returns-clause-matching g c = match_law

pub returns-in_err-history-clause-matching : goal.returns-in_err-history-clause-matching
returns-in_err-history-clause-matching g c = match_law
