-- The term `.*`: it holds every text, and is its own derivative by each symbol.
use Rattle.std.proofs.Common.{◌≡◌, ◌&&◌, ℕ, Bool, true, false, IsTrue, List, [], ◌∷◌, ◌++◌, refl, sym, ap, subst, ◌∙◌, inl, inr, append_assoc, append-nil}
use Rattle.std.proofs.lemmas.Bool.{and_parts, false≢true}
use Rattle.basics.specs.Symbol.{is_symbol, is_text}
use Rattle.pol_pattern.specs.Flat.{Class, holds_symbol, class, Term, empty, put, Terms, none, alt, join_term}
use Rattle.pol_pattern.specs.Spelling.{any_symbol}
use Rattle.pol_pattern.specs.Sets.{InTerm, InTerms, Joins}
use Rattle.pol_pattern.proofs.ClassHolds.{class_holds}
use Rattle.pol_residual.specs.Derivative.{Derivative, of_class, of_group, of_star, after_star, Residual, by_more}
use Rattle.pol_residual.specs.Residuals.{any_text, SureLaw}
use Rattle.pol_deriv.proofs.Inversion.{derivative-empty, derivative-class, derivative-star}
use Rattle.pol_deriv.proofs.Residuals.{residual_law}

-- ---- what it holds

pub any_holds_symbol : (symbol : ℕ) → IsTrue (is_symbol symbol) → IsTrue (holds_symbol any_symbol symbol)
any_holds_symbol symbol is = class_holds (λ byte. true) symbol ∙ ap (λ (b : Bool). b && true) is

-- a text is the join of its symbols
symbols_join : (text : List ℕ) → IsTrue (is_text text) → Joins (InTerms (alt (put (class any_symbol) empty) none)) text
symbols_join [] is = ([], tt, refl)
symbols_join (symbol ∷ text) is =
    let both = and_parts (is_symbol symbol) (is_text text) is in
    let others = symbols_join text both.1 in
    let own : InTerm (put (class any_symbol) empty) (symbol ∷ []) = (symbol ∷ [], [], refl, (symbol, refl, any_holds_symbol symbol both.0), refl) in
    ((symbol ∷ []) ∷ others.0, (inl own, others.1), ap (λ (t : List ℕ). symbol ∷ t) others.2)

-- `.*` holds every text
pub any_holds : (text : List ℕ) → IsTrue (is_text text) → InTerm any_text text
any_holds text is = (text, [], sym (append-nil text), symbols_join text is, refl)

-- ---- its derivatives

-- it is its own derivative by each symbol, and has no other
pub any_derivative : (symbol : ℕ) → IsTrue (is_symbol symbol) → Derivative symbol any_text any_text
any_derivative symbol is = of_star (inl refl) (of_class (any_holds_symbol symbol is))

pub only_derivative : (symbol : ℕ) (next : Term) → Derivative symbol any_text next → next ≡ any_text
only_derivative symbol next d =
    elim (derivative-star d) [
      | inl s ↦
          elim s.among [
            | inl own ↦
                let inner = derivative-class (subst (λ (t : Term). Derivative symbol t s.inner) own s.derivative) in
                s.joined ∙ ap (λ (t : Term). join_term t any_text) inner.0
            | inr other ↦ absurd other
          ]
      | inr after ↦ absurd (derivative-empty after)
    ]

no_symbol : (c : Class) (symbol : ℕ) → is_symbol symbol ≡ false → IsTrue (holds_symbol c symbol) → ⊥
unfolding holds_symbol
no_symbol c symbol not held = absurd (false≢true (sym not ∙ (and_parts (is_symbol symbol) _ held).0))

-- by a byte that is no symbol there is none
pub no_derivative : (symbol : ℕ) (term next : Term) → is_symbol symbol ≡ false → Derivative symbol term next → ⊥
no_derivative symbol term next not (of_class {c} held) = no_symbol c symbol not held
no_derivative symbol term next not (of_group alternative among d) = no_derivative symbol _ _ not d
no_derivative symbol term next not (of_star among d) = no_derivative symbol _ _ not d
no_derivative symbol term next not (after_star d) = no_derivative symbol _ _ not d

-- ---- entries that have it

stays_sure : (pattern : Terms) (text rest : List ℕ) → IsTrue (is_text rest) → Residual pattern text any_text → Residual pattern (text ++ rest) any_text
stays_sure pattern text [] is r = subst (λ (l : List ℕ). Residual pattern l any_text) (sym (append-nil text)) r
stays_sure pattern text (symbol ∷ rest) is r =
    let both = and_parts (is_symbol symbol) (is_text rest) is in
    subst (λ (l : List ℕ). Residual pattern l any_text) (append_assoc text (symbol ∷ []) rest)
    (stays_sure pattern (text ++ symbol ∷ []) rest both.1 (by_more r (any_derivative symbol both.0)))

-- a sure entry holds every text that goes on, and stays sure
pub sure_law : SureLaw
sure_law source text rest is (flat, spelled, r) = (
  (flat, spelled, (residual_law flat text rest).1 (any_text, r, any_holds rest is)),
  (flat, spelled, stays_sure flat text rest is r),
)
