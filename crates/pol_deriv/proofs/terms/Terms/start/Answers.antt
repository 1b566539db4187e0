use Rattle.std.proofs.Common.{[], refl, sym, subst}
use Rattle.pol_pattern.specs.Flat.{Terms}
use Rattle.pol_residual.specs.Derivative.{Residual}
use Rattle.pol_deriv.specs.Table.{IsSetOf}
use Rattle.pol_deriv.proofs.Residuals.{first_residual, residual_law}
use Rattle.pol_deriv.proofs.Sets.{stands_same, stands_moved, stands_within}
use Rattle.pol_deriv.proofs.RowFacts.{rows_kept}
use Rattle.pol_deriv.proofs.Whole.{spelled_whole}
use Rattle.pol_deriv.proofs.terms.Terms.start.Goals as goal

pub invariant_of-self : goal.invariant_of-self
invariant_of-self c =
    let rows = c.self.inside.rows in
    record {
      distinct = c.add_each.ensures.grows.distinct;
      rows = rows_kept c.self.inside.table c.add_each.new.self c.add_each.ensures.grows.kept rows.places rows.places rows.lists rows.lists (λ k l e. e) c.self.invariant.rows (λ n. refl);
    }

pub invariant_of-self-2 : goal.invariant_of-self-2
invariant_of-self-2 c =
    let rows = c.self.inside.rows in
    record {
      distinct = c.add_each.ensures.grows.distinct;
      rows = rows_kept c.self.inside.table c.add_each.new.self c.add_each.ensures.grows.kept rows.places rows.places rows.lists rows.lists (λ k l e. e) c.self.invariant.rows (λ n. refl);
    }

pub returns-clause-residual : goal.returns-clause-residual
returns-clause-residual c = λ parsed spelled.
    let same = c.terms.ensures.only parsed spelled in
    subst (λ (p : Terms). IsSetOf c.add_each.new.self c.new.result (Residual p [])) (sym same)
    (record {
      sorted = c.new.ensures.sorted;
      members = stands_moved c.new.ensures.members (stands_same (λ term. let e = first_residual _ term in (e.1, e.0)) c.in_ok-numbers.ensures.members);
    })

pub returns-clause-numbers : goal.returns-clause-numbers
returns-clause-numbers c = stands_within (stands_moved c.new.ensures.members c.in_ok-numbers.ensures.members)

pub returns-clause-law : goal.returns-clause-law
returns-clause-law c = first_residual

pub returns-in_err-numbers-clause-law : goal.returns-in_err-numbers-clause-law
returns-in_err-numbers-clause-law c = first_residual

pub returns-clause-holds : goal.returns-clause-holds
returns-clause-holds c = residual_law

pub returns-in_err-numbers-clause-holds : goal.returns-in_err-numbers-clause-holds
returns-in_err-numbers-clause-holds c = residual_law

pub returns-clause-spelled : goal.returns-clause-spelled
returns-clause-spelled c = (_, c.terms.ensures.spelled)

pub returns-in_err-numbers-clause-spelled : goal.returns-in_err-numbers-clause-spelled
returns-in_err-numbers-clause-spelled c = (_, c.terms.ensures.spelled)

pub add_each-requires-clause-whole : goal.add_each-requires-clause-whole
add_each-requires-clause-whole c = spelled_whole c.args.pattern.now _ c.terms.ensures.spelled
