use Rattle.pol_deriv.proofs.AnyText.{sure_law}
use Rattle.pol_deriv.proofs.Tables.{term_means}
use Rattle.pol_deriv.proofs.terms.Terms.is_any_text.Goals as goal

pub returns-clause-exact : goal.returns-clause-exact
returns-clause-exact c = λ term means.
    rw (term_means c.self.inside.table c.args.number term (rw (← c.self.view_is) at means)) at c.is_any_text.ensures

pub returns-clause-law : goal.returns-clause-law
returns-clause-law c = sure_law
