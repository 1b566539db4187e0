-- What the residual of a pattern by a text holds.
use Rattle.std.proofs.Common.{◌≡◌, ℕ, List, [], ◌∷◌, ◌++◌, refl, sym, subst, append_assoc, append-nil}
use Rattle.pol_pattern.specs.Flat.{Term, Terms}
use Rattle.pol_pattern.specs.Sets.{InTerm, InTerms}
use Rattle.pol_residual.specs.Derivative.{IsAmong, Derivative, Derivatives, Residual, at_first, by_more, ResidualLaw, FirstResidual, NextResidual}
use Rattle.pol_deriv.proofs.Language.{among_holds, holds_among, derivative_holds, holds_goes}

-- ---- texts with a last symbol

no_last : (text : List ℕ) (symbol : ℕ) → [] ≡ text ++ symbol ∷ [] → ⊥
no_last [] symbol e = cc
no_last (first ∷ text) symbol e = cc

same_last : (a b : List ℕ) (x y : ℕ) → a ++ x ∷ [] ≡ b ++ y ∷ [] → (a ≡ b) × (x ≡ y)
same_last [] [] x y e = (refl, cc)
same_last [] (q ∷ b) x y e = absurd (no_last b y cc)
same_last (p ∷ a) [] x y e = absurd (no_last a x cc)
same_last (p ∷ a) (q ∷ b) x y e =
    let first : p ≡ q = cc in
    let rest : a ++ x ∷ [] ≡ b ++ y ∷ [] = cc in
    let w = same_last a b x y rest in
    (cc, w.1)

-- ---- the residual, by the text's end

residual_nil_at : (pattern : Terms) (text : List ℕ) (term : Term) → Residual pattern text term → text ≡ [] → IsAmong pattern term
residual_nil_at pattern text term (at_first among) e = among
residual_nil_at pattern text term (by_more {text = t} {symbol} before d) e = absurd (no_last t symbol (sym e))

pub first_residual : FirstResidual
first_residual pattern term = (λ r. residual_nil_at pattern [] term r refl, λ among. at_first among)

residual_more_at : (pattern : Terms) (whole text : List ℕ) (symbol : ℕ) (next : Term) → Residual pattern whole next → whole ≡ text ++ symbol ∷ [] → Derivatives symbol (Residual pattern text) next
residual_more_at pattern whole text symbol next (at_first among) e = absurd (no_last text symbol e)
residual_more_at pattern whole text symbol next (by_more {text = t} {symbol = c} {term} before d) e =
    let w = same_last t text c symbol e in
    (term, subst (λ (l : List ℕ). Residual pattern l term) w.0 before, subst (λ (n : ℕ). Derivative n term next) w.1 d)

pub next_residual : NextResidual
next_residual pattern text symbol next = (λ r. residual_more_at pattern (text ++ symbol ∷ []) text symbol next r refl, λ w. by_more w.1 w.2)

-- ---- what it holds

residual_holds : (pattern : Terms) (text rest : List ℕ) (term : Term) → Residual pattern text term → InTerm term rest → InTerms pattern (text ++ rest)
residual_holds pattern text rest term (at_first among) held = among_holds pattern term rest among held
residual_holds pattern text rest term (by_more {text = t} {symbol = c} {term = before} r d) held =
    subst (InTerms pattern) (sym (append_assoc t (c ∷ []) rest)) (residual_holds pattern t (c ∷ rest) before r (derivative_holds c rest d held))

holds_residual : (pattern : Terms) (done text rest : List ℕ) (term : Term) → Residual pattern done term → InTerm term (text ++ rest) → (last : Term) × Residual pattern (done ++ text) last × InTerm last rest
holds_residual pattern done [] rest term r held = (term, subst (λ (l : List ℕ). Residual pattern l term) (sym (append-nil done)) r, held)
holds_residual pattern done (symbol ∷ text) rest term r held =
    let g = holds_goes symbol term (text ++ rest) held in
    let w = holds_residual pattern (done ++ symbol ∷ []) text rest g.next (by_more r g.derivative) g.held in
    (w.0, subst (λ (l : List ℕ). Residual pattern l w.0) (append_assoc done (symbol ∷ []) text) w.1, w.2)

pub residual_law : ResidualLaw
residual_law pattern text rest = (
  λ held.
      let w = holds_among pattern (text ++ rest) held in
      holds_residual pattern [] text rest w.0 (at_first w.1) w.2,
  λ w. residual_holds pattern text rest w.0 w.1 w.2,
)
