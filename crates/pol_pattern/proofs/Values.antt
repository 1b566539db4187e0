-- What lists of the code's values represent, one after another.
use Rattle.std.proofs.Common.{◌≡◌, ℕ, ◌+◌, ◌<◌, List, [], ◌∷◌, ◌++◌, length, take, get_or, refl, sym, ap, ap₂, ◌∙◌}
use Rattle.std.proofs.lemmas.List.{take_more}
use Rattle.std.specs.Global.{Vec}
use Rattle.pol_pattern.specs.Flat.{Term, empty, put, alt, none, join_terms, join_term, factor_value, term_value, terms_value}
use Rattle.pol_pattern.specs.declared.flat.Factor.{Factor as FactorValue}

pub term_value-append : (front back : List FactorValue) → term_value (front ++ back) ≡ join_term (term_value front) (term_value back)
term_value-append [] back = refl
term_value-append (factor ∷ front) back = ap (put (factor_value factor)) (term_value-append front back)

pub terms_value-append : (front back : List (Vec FactorValue)) → terms_value (front ++ back) ≡ join_terms (terms_value front) (terms_value back)
terms_value-append [] back = refl
terms_value-append (term ∷ front) back = ap (alt (term_value term.items)) (terms_value-append front back)

-- one more copy of terms, of which so many are copied
pub terms_value-more : (terms copies : List (Vec FactorValue)) (i : ℕ) (term copy : Vec FactorValue) → i < length terms → term ≡ get_or terms i term
    → terms_value copies ≡ terms_value (take i terms) → term_value copy.items ≡ term_value term.items
    → terms_value (copies ++ copy ∷ []) ≡ terms_value (take (i + 1) terms)
terms_value-more terms copies i term copy lt is same one =
    terms_value-append copies (copy ∷ []) ∙ ap₂ join_terms same (ap (λ (t : Term). alt t none) (one ∙ ap (λ (t : Vec FactorValue). term_value t.items) is))
    ∙ sym (ap terms_value (take_more terms i term lt) ∙ terms_value-append (take i terms) (get_or terms i term ∷ []))

pub join_term-empty : (term : Term) → join_term term empty ≡ term
join_term-empty empty = refl
join_term-empty (put factor term) = ap (put factor) (join_term-empty term)
