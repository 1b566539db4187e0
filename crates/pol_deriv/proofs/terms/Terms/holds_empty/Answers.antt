use Rattle.std.proofs.Common.{ap, ◌∙◌}
use Rattle.pol_deriv.specs.Linear.{term_holds_empty}
use Rattle.pol_deriv.proofs.Language.{derivative_law}
use Rattle.pol_deriv.proofs.LinearForms.{term_empty}
use Rattle.pol_deriv.proofs.Tables.{term_means}
use Rattle.pol_deriv.proofs.terms.Terms.holds_empty.Goals as goal

pub returns-clause-exact : goal.returns-clause-exact
returns-clause-exact c = λ term means.
    let table = c.self.inside.table in
    let is = c.holds_empty.ensures ∙ ap term_holds_empty (term_means table c.args.number term (rw (← c.self.view_is) at means)) in
    rw is (term_empty term)

pub returns-clause-law : goal.returns-clause-law
returns-clause-law c = derivative_law
