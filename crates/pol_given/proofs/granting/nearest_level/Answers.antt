use Rattle.std.proofs.Common.{◌≡◌, ℕ, ◌-◌, ◌+◌, ◌<◌, ◌≤◌, List, [], Option, None, Some, refl, sym, ap, ◌∙◌, arith}
use Rattle.std.specs.Option.{option_or, option_map, option_map_or}
use Rattle.pol_names.specs.declared.subject_id.SubjectId.{SubjectId}
use Rattle.pol_text.specs.declared.subject.Subject.{Subject}
use Rattle.pol_text.specs.Policy.{id_of, parent_of, chain_within}
use Rattle.pol_text.proofs.ChainFacts.{chain_within_step, chain_within_none}
use Rattle.pol_given.specs.Granting.{first_levelled}
use Rattle.pol_given.proofs.granting.nearest_level.Goals as goal

own : Subject → Option (SubjectId × ℕ)
own subject = option_map (λ level. (id_of subject, level)) subject.priv_lvl

step : (policy : List Subject) (subject : Subject) (i : ℕ) (parent : Option Subject) → i < 8 → parent_of policy subject ≡ parent
    → first_levelled (chain_within (8 - i) policy subject) ≡ option_or (own subject) (first_levelled (option_map_or (chain_within (8 - (i + 1)) policy) parent []))
unfolding own
step policy subject i parent lt e = ap first_levelled (chain_within_step policy subject 8 i parent lt e)

at_end : (policy : List Subject) (subject : Subject) (i : ℕ) → 8 ≤ i → first_levelled (chain_within (8 - i) policy subject) ≡ None
at_end policy subject i past =
    let none_left : 8 - i ≡ 0 = omega arith in
    ap (λ (n : ℕ). first_levelled (chain_within n policy subject)) none_left ∙ ap first_levelled (chain_within_none policy subject)

pub returns-in-Some : goal.returns-in-Some
unfolding own
returns-in-Some c =
    sym (c.chain.invariant ∙ step c.args.policy.now c.chain.present.now c.chain.counter (parent_of c.args.policy.now c.chain.present.now) (omega arith) refl ∙ rw (c.in-Some.is, c.id.ensures) refl)

pub returns-in-None : goal.returns-in-None
unfolding own
returns-in-None c =
    sym (c.chain.invariant ∙ step c.args.policy.now c.chain.present.now c.chain.counter None (omega arith) (sym c.in-None.ensures.found) ∙ rw c.in_default.is refl)

pub chain-preserved : goal.chain-preserved
unfolding own
chain-preserved c =
    c.chain.invariant ∙ step c.args.policy.now c.chain.present.now c.chain.counter (Some c.in-Some-parent_of.parent.now) (omega arith) (sym c.in-Some-parent_of.ensures.found) ∙ rw c.in_default.is refl

pub returns : goal.returns
returns c = sym (c.chain.invariant ∙ at_end c.args.policy.now c.chain.present.now c.chain.counter (omega arith))
