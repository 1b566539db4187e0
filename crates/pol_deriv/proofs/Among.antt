-- The terms of a pattern, one after another.
use Rattle.std.proofs.Common.{◌≡◌, ◌⊎◌, ◌↔◌, inl, inr, ◌+◌, ◌<◌, ℕ, List, [], ◌∷◌, ◌++◌, length, take, get_or, sym, ap, subst, ◌∙◌}
use Rattle.std.proofs.lemmas.List.{take_more}
use Rattle.std.specs.Global.{Vec}
use Rattle.pol_pattern.specs.Flat.{Term, term_value, terms_value}
use Rattle.pol_pattern.specs.declared.flat.Factor.{Factor as FactorValue}
use Rattle.pol_residual.specs.Derivative.{IsAmong}

among-push : (terms : List (Vec FactorValue)) (last : Vec FactorValue) (term : Term) → IsAmong (terms_value (terms ++ last ∷ [])) term ↔ (IsAmong (terms_value terms) term ⊎ (term ≡ term_value last.items))
among-push [] last term = (λ h. elim h [ inl e ↦ inr e | inr a ↦ absurd a ], λ h. elim h [ inl a ↦ absurd a | inr e ↦ inl e ])
among-push (first ∷ terms) last term =
    let rest = among-push terms last term in (
      λ h. elim h [ inl e ↦ inl (inl e) | inr a ↦ elim (rest.0 a) [ inl b ↦ inl (inr b) | inr e ↦ inr e ] ],
      λ h. elim h [ inl k ↦ elim k [ inl e ↦ inl e | inr b ↦ inr (rest.1 (inl b)) ] | inr e ↦ inr (rest.1 (inr e)) ],
    )

pub among_more : (terms : List (Vec FactorValue)) (i : ℕ) (own : Vec FactorValue) → i < length terms → own ≡ get_or terms i own → (term : Term)
    → (IsAmong (terms_value (take i terms)) term ⊎ (term ≡ term_value own.items)) ↔ IsAmong (terms_value (take (i + 1) terms)) term
among_more terms i own lt is term =
    let more : take (i + 1) terms ≡ take i terms ++ own ∷ [] = take_more terms i own lt ∙ ap (λ (x : Vec FactorValue). take i terms ++ x ∷ []) (sym is) in
    let both = among-push (take i terms) own term in (
      λ h. subst (λ (l : List (Vec FactorValue)). IsAmong (terms_value l) term) (sym more) (both.1 h),
      λ h. both.0 (subst (λ (l : List (Vec FactorValue)). IsAmong (terms_value l) term) more h),
    )
