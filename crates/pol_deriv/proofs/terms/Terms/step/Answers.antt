use Rattle.std.proofs.Common.{List, ℕ, subst}
use Rattle.std.proofs.lemmas.List.{take_all}
use Rattle.pol_residual.specs.Derivative.{Derivatives}
use Rattle.pol_deriv.specs.Table.{StandsFor, IsSetOf, HasTerm}
use Rattle.pol_deriv.proofs.Tables.{grows_on}
use Rattle.pol_deriv.proofs.Sets.{stands_moved, stands_within}
use Rattle.pol_deriv.proofs.Steps.{item_within, step_more, residual_stepped}
use Rattle.pol_deriv.proofs.Residuals.{next_residual}
use Rattle.pol_deriv.proofs.terms.Terms.step.Goals as goal
use Rattle.pol_deriv.proofs.terms.Terms.step.Goals.{After-new}

pub derivatives-requires : goal.derivatives-requires
derivatives-requires c =
    let items = c.numbers-number-items.ensures.numbers in
    let l = c.loop-number in
    rw items (item_within c.args.self.now l.self c.args.set.now l.number-index l.invariant.grows.kept c.requires (rw items at c.loop-number-test.true))

pub loop-number-preserved : goal.loop-number-preserved
loop-number-preserved c =
    let l = c.loop-number in
    let lent = c.derivatives.follows.holds-at-none in
    let after = c.derivatives.follows.lender-at-none in
    let items = c.numbers-number-items.ensures.numbers in
    let lt = rw items at c.loop-number-test.true in
    let numbers = rw (c.in_ok-derivatives.was, items) at lent.1 in
    rw c.in_ok-extend_from_slice.ensures.items (record {
      grows = grows_on l.invariant.grows lent.0;
      members = step_more c.args.self.now l.self after c.args.symbol c.args.set.now l.number-index l.found.items c.in_ok-derivatives.field-0.now l.invariant.grows.kept c.requires lt l.invariant.members lent.0.kept numbers;
    })

stepped : (c : After-new) → IsSetOf c.loop-number.self c.new.result (Derivatives c.args.symbol (HasTerm c.args.self.now c.args.set.now))
stepped c =
    let items = c.numbers-number-items.ensures.numbers in
    let all = take_all c.loop-number.number-index c.args.set.now (rw items at c.loop-number-test.false) in
    let members = subst (λ (l : List ℕ). StandsFor c.loop-number.self c.loop-number.found.items (Derivatives c.args.symbol (HasTerm c.args.self.now l))) all c.loop-number.invariant.members in
    record { sorted = c.new.ensures.sorted; members = stands_moved c.new.ensures.members members }

pub returns-clause-exact : goal.returns-clause-exact
returns-clause-exact c = stepped c

pub returns-clause-residual : goal.returns-clause-residual
returns-clause-residual c = λ parsed text residual.
    residual_stepped c.args.self.now c.loop-number.self c.args.symbol c.args.set.now c.new.result parsed text (stepped c) residual

pub returns-clause-numbers : goal.returns-clause-numbers
returns-clause-numbers c = stands_within (stepped c).members

pub returns-clause-law : goal.returns-clause-law
returns-clause-law c = next_residual

pub returns-in_err-derivatives-clause-law : goal.returns-in_err-derivatives-clause-law
returns-in_err-derivatives-clause-law c = next_residual

pub returns-in_err-extend_from_slice-clause-law : goal.returns-in_err-extend_from_slice-clause-law
returns-in_err-extend_from_slice-clause-law c = next_residual
