use Rattle.std.proofs.Common.{◌≡◌, ℕ, ◌-◌, ◌+◌, ◌<◌, ◌≤◌, List, [], Option, None, Some, refl, sym, ap, ◌∙◌, arith}
use Rattle.std.specs.Option.{option_or, option_map_or}
use Rattle.pol_text.specs.declared.subject.Subject.{Subject}
use Rattle.pol_text.specs.Policy.{parent_of, chain_within, first_level}
use Rattle.pol_text.proofs.ChainFacts.{chain_within_step, chain_within_none}
use Rattle.pol_text.proofs.policy.Policy.nearest_level.Goals as goal

step : (policy : List Subject) (subject : Subject) (i : ℕ) (parent : Option Subject) → i < 8 → parent_of policy subject ≡ parent
    → first_level (chain_within (8 - i) policy subject) ≡ option_or subject.priv_lvl (first_level (option_map_or (chain_within (8 - (i + 1)) policy) parent []))
step policy subject i parent lt e = ap first_level (chain_within_step policy subject 8 i parent lt e)

at_end : (policy : List Subject) (subject : Subject) (i : ℕ) → 8 ≤ i → first_level (chain_within (8 - i) policy subject) ≡ None
at_end policy subject i past =
    let none_left : 8 - i ≡ 0 = omega arith in
    ap (λ (n : ℕ). first_level (chain_within n policy subject)) none_left ∙ ap first_level (chain_within_none policy subject)

pub returns-in-Some : goal.returns-in-Some
returns-in-Some c =
    sym (c.chain.invariant ∙ step c.args.self.now c.chain.present.now c.chain.counter (parent_of c.args.self.now c.chain.present.now) (omega arith) refl ∙ rw c.in-Some.is refl)

pub returns-in-None : goal.returns-in-None
returns-in-None c =
    sym (c.chain.invariant ∙ step c.args.self.now c.chain.present.now c.chain.counter None (omega arith) (sym c.in-None.ensures.found) ∙ rw c.in_default.is refl)

pub chain-preserved : goal.chain-preserved
chain-preserved c =
    c.chain.invariant ∙ step c.args.self.now c.chain.present.now c.chain.counter (Some c.in-Some-parent_of.parent.now) (omega arith) (sym c.in-Some-parent_of.ensures.found) ∙ rw c.in_default.is refl

pub returns : goal.returns
returns c = sym (c.chain.invariant ∙ at_end c.args.self.now c.chain.present.now c.chain.counter (omega arith))
