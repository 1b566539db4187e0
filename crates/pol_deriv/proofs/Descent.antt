-- Going down the terms of a pattern, from their ends.
use Rattle.std.proofs.Common.{◌≡◌, ℕ, zero, suc, ◌+◌, ◌-◌, ◌<◌, List, [], ◌∷◌, length, get_or, drop, sym, ap, ◌∙◌, arith}
use Rattle.std.proofs.lemmas.List.{at_drop_more}
use Rattle.std.specs.Global.{Vec}
use Rattle.pol_pattern.specs.Flat.{Factor, class, group, star, Term, empty, put, Terms, none, alt, factor_value, term_value, terms_value}
use Rattle.pol_pattern.specs.declared.flat.Factor.{Factor as FactorValue}

-- ---- how far a call may go down: less with each part

abbrev mutual
  pub factor_weight : Factor → ℕ
  factor_weight (class c) = 0
  factor_weight (group terms) = 2 + terms_weight terms
  factor_weight (star terms) = 2 + terms_weight terms

  pub term_weight : Term → ℕ
  term_weight empty = 0
  term_weight (put factor term) = 1 + factor_weight factor + term_weight term

  pub terms_weight : Terms → ℕ
  terms_weight none = 0
  terms_weight (alt term terms) = 1 + term_weight term + terms_weight terms

pub term_weight-item : (factors : List FactorValue) (i : ℕ) (factor : FactorValue) → i < length factors → factor ≡ get_or factors i factor
    → factor_weight (factor_value factor) < term_weight (term_value factors)
term_weight-item [] i factor lt e = absurd (omega arith)
term_weight-item (first ∷ factors) zero factor lt e = rw e (omega arith)
term_weight-item (first ∷ factors) (suc i) factor lt e =
    omega (arith, term_weight-item factors i factor (omega arith) e)

pub terms_weight-item : (terms : List (Vec FactorValue)) (i : ℕ) (term : Vec FactorValue) → i < length terms → term ≡ get_or terms i term
    → term_weight (term_value term.items) < terms_weight (terms_value terms)
terms_weight-item [] i term lt e = absurd (omega arith)
terms_weight-item (first ∷ terms) zero term lt e = rw e (omega arith)
terms_weight-item (first ∷ terms) (suc i) term lt e =
    omega (arith, terms_weight-item terms i term (omega arith) e)

-- ---- one item more, in front of those after it

pub terms_value-before : (terms : List (Vec FactorValue)) (i : ℕ) (term : Vec FactorValue) → 0 < i → i - 1 < length terms → term ≡ get_or terms (i - 1) term
    → terms_value (drop (i - 1) terms) ≡ alt (term_value term.items) (terms_value (drop i terms))
terms_value-before terms i term pos lt e =
    at_drop_more terms_value terms (i - 1) term lt ∙ ap (λ (t : Vec FactorValue). alt (term_value t.items) (terms_value (drop (i - 1 + 1) terms))) (sym e)
    ∙ ap (λ (n : ℕ). alt (term_value term.items) (terms_value (drop n terms))) (omega arith)
