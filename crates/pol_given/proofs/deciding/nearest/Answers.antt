use Rattle.std.proofs.Common.{◌≡◌, ℕ, ◌-◌, ◌+◌, ◌<◌, ◌≤◌, true, false, cond, List, [], Option, None, Some, refl, sym, ap, ◌∙◌, arith}
use Rattle.std.specs.Option.{option_map_or}
use Rattle.pol_names.specs.declared.service.ServiceId.{ServiceId}
use Rattle.pol_text.specs.declared.subject.Subject.{Subject}
use Rattle.pol_text.specs.Policy.{parent_of, chain_within}
use Rattle.pol_text.proofs.ChainFacts.{chain_within_step, chain_within_none}
use Rattle.pol_given.specs.Given.{speaks_of, first_speaking}
use Rattle.pol_given.proofs.deciding.nearest.Goals as goal

step : (service : ServiceId) (policy : List Subject) (subject : Subject) (i : ℕ) (parent : Option Subject) → i < 8 → parent_of policy subject ≡ parent
    → first_speaking service (chain_within (8 - i) policy subject)
    ≡ cond (speaks_of service subject) (Some subject) (first_speaking service (option_map_or (chain_within (8 - (i + 1)) policy) parent []))
step service policy subject i parent lt e = ap (first_speaking service) (chain_within_step policy subject 8 i parent lt e)

at_end : (service : ServiceId) (policy : List Subject) (subject : Subject) (i : ℕ) → 8 ≤ i → first_speaking service (chain_within (8 - i) policy subject) ≡ None
at_end service policy subject i past =
    let none_left : 8 - i ≡ 0 = omega arith in
    ap (λ (n : ℕ). first_speaking service (chain_within n policy subject)) none_left ∙ ap (first_speaking service) (chain_within_none policy subject)

pub returns-then-speaks_of-clause-exact : goal.returns-then-speaks_of-clause-exact
returns-then-speaks_of-clause-exact c =
    let speaks : speaks_of c.args.service.now c.chain.present.now ≡ true = cc in
    sym (c.chain.invariant.0 ∙ step c.args.service.now c.args.policy.now c.chain.present.now c.chain.counter (parent_of c.args.policy.now c.chain.present.now) (omega arith) refl ∙ rw speaks refl)

pub returns-in-None-clause-exact : goal.returns-in-None-clause-exact
returns-in-None-clause-exact c =
    let silent : speaks_of c.args.service.now c.chain.present.now ≡ false = cc in
    sym (c.chain.invariant.0 ∙ step c.args.service.now c.args.policy.now c.chain.present.now c.chain.counter None (omega arith) (sym c.in-None.ensures.found) ∙ rw silent refl)

pub chain-preserved : goal.chain-preserved
chain-preserved c =
    let silent : speaks_of c.args.service.now c.chain.present.now ≡ false = cc in (
      c.chain.invariant.0 ∙ step c.args.service.now c.args.policy.now c.chain.present.now c.chain.counter (Some c.in-Some.parent.now) (omega arith) (sym c.in-Some.ensures.found) ∙ rw silent refl,
      c.in-Some.ensures.there,
    )

pub returns-clause-exact : goal.returns-clause-exact
returns-clause-exact c = sym (c.chain.invariant.0 ∙ at_end c.args.service.now c.args.policy.now c.chain.present.now c.chain.counter (omega arith))
