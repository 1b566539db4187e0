-- A text is judged in one way.
use Rattle.std.proofs.Common.{◌≡◌, ℕ, List, Result, Ok, Err, sym, ap, subst, ◌∙◌}
use Rattle.pol_names.specs.declared.subject_id.SubjectId.{SubjectId}
use Rattle.pol_text.specs.Text.{policy_of}
use Rattle.pol_text.specs.declared.subject.Subject.{Subject}
use Rattle.pol_text.specs.declared.fault.PolicyFault.{PolicyFault}
use Rattle.pol_text.specs.declared.fault.PolicyFault.TheVariants.{Refused}
use Rattle.pol_text.specs.declared.fault.PolicyRefusal.{PolicyRefusal}
use Rattle.pol_meaning.specs.Sizes.{IsSmall, IsFirstLarge}
use Rattle.pol_live.specs.declared.judging.TextRefusal.{TextRefusal}
use Rattle.pol_live.specs.declared.judging.TextRefusal.TheVariants.{NoPolicy, TooLarge}
use Rattle.pol_live.specs.Judging.{Judges}
use Rattle.pol_live.proofs.OnlyFacts.{first_unique, none_large}

-- no policy may stand and have a large subject
apart : (read : Result (List Subject) PolicyFault) (policy large : List Subject) (id : SubjectId) → read ≡ Ok policy → IsSmall policy → read ≡ Ok large → IsFirstLarge large large id → ⊥
apart read policy large id e small f first =
    let same : large ≡ policy = cc in
    none_large policy policy id small (subst (λ (p : List Subject). IsFirstLarge p p id) same first)

pub one_judged : (text : List ℕ) (a b : Result (List Subject) TextRefusal) → Judges text a → Judges text b → a ≡ b
one_judged text (Ok a) (Ok b) h k = let e : Ok a ≡ Ok b = sym h.0 ∙ k.0 in let same : a ≡ b = cc in ap Ok same
one_judged text (Ok a) (Err (NoPolicy line refusal)) h k = let e : Ok a ≡ Err (Refused line refusal) = sym h.0 ∙ k in absurd cc
one_judged text (Ok a) (Err (TooLarge id)) h k = absurd (apart (policy_of text) a k.0 id h.0 h.1 k.1 k.2)
one_judged text (Err (NoPolicy line refusal)) (Ok b) h k = let e : Ok b ≡ Err (Refused line refusal) = sym k.0 ∙ h in absurd cc
one_judged text (Err (NoPolicy line refusal)) (Err (NoPolicy other why)) h k =
    let e : ◌≡◌ {A = Result (List Subject) PolicyFault} (Err (Refused line refusal)) (Err (Refused other why)) = sym h ∙ k in
    let place : line ≡ other = cc in
    let what : refusal ≡ why = cc in
    ap (λ (n : ℕ). Err (NoPolicy n refusal)) place ∙ ap (λ (r : PolicyRefusal). Err (NoPolicy other r)) what
one_judged text (Err (NoPolicy line refusal)) (Err (TooLarge id)) h k = let e : Ok k.0 ≡ Err (Refused line refusal) = sym k.1 ∙ h in absurd cc
one_judged text (Err (TooLarge id)) (Ok b) h k = absurd (apart (policy_of text) b h.0 id k.0 k.1 h.1 h.2)
one_judged text (Err (TooLarge id)) (Err (NoPolicy line refusal)) h k = let e : Ok h.0 ≡ Err (Refused line refusal) = sym h.1 ∙ k in absurd cc
one_judged text (Err (TooLarge id)) (Err (TooLarge other)) h k =
    let e : ◌≡◌ {A = Result (List Subject) PolicyFault} (Ok h.0) (Ok k.0) = sym h.1 ∙ k.1 in
    let same : k.0 ≡ h.0 = cc in
    ap (λ (s : SubjectId). Err (TooLarge s)) (first_unique h.0 h.0 id other h.2 (subst (λ (p : List Subject). IsFirstLarge p p other) same k.2))
