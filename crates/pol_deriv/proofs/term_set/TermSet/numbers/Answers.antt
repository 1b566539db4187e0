use Rattle.pol_deriv.proofs.Sets.{same_set_law}
use Rattle.pol_deriv.proofs.term_set.TermSet.numbers.Goals as goal

pub returns-clause-law : goal.returns-clause-law
returns-clause-law c = same_set_law
