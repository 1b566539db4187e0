-- Texts with the same residuals have the same first match, whatever text follows both.
use Rattle.std.proofs.Common.{◌<◌, inl, inr, ℕ, zero, suc, IsTrue, List, [], ◌∷◌, ◌++◌, Option, None, Some, arith}
use Rattle.std.proofs.lemmas.List.Elements.{All-cons, All-tail}
use Rattle.basics.specs.Symbol.{is_text}
use Rattle.pol_pattern.specs.Spelling.{Holds}
use Rattle.pol_residual.specs.Residuals.{SameTerms, SameResiduals}
use Rattle.pol_deriv.proofs.Residuals.{residual_law}
use Rattle.pol_deriv.proofs.AnyText.{sure_law}
use Rattle.pol_automaton.specs.Decision.{entry_at, IsFirstMatch, SameMatchLaw}
use Rattle.pol_automaton.proofs.Counting.{same_symmetric}

holds_on : (source text other rest : List ℕ) → SameTerms source text other → Holds source (text ++ rest) → Holds source (other ++ rest)
holds_on source text other rest same held =
    let w = (residual_law held.0 text rest).0 held.2 in
    let r = (same w.0).0 (held.0, held.1, w.1) in
    (r.0, r.1, (residual_law r.0 other rest).1 (w.0, r.2, w.2))

-- the first entry holds a text, so it is the first match
only_first : (source : List ℕ) (entries : List (List ℕ)) (text other : List ℕ) (first : Option ℕ) → Holds source text → Holds source other
    → IsFirstMatch (source ∷ entries) text first → IsFirstMatch (source ∷ entries) other first
only_first source entries text other None held holds p = absurd (p 0 [] (omega arith) held)
only_first source entries text other (Some zero) held holds p = (omega arith, holds, λ k below. absurd (omega arith))
only_first source entries text other (Some (suc i)) held holds p = absurd (p.2 0 (omega arith) held)

match_on : (entries : List (List ℕ)) (text other rest : List ℕ) (first : Option ℕ) → IsTrue (is_text rest) → SameResiduals entries text other
    → IsFirstMatch entries (text ++ rest) first → IsFirstMatch entries (other ++ rest) first
match_on [] text other rest None is same p = λ k d lt. absurd (omega arith)
match_on [] text other rest (Some i) is same p = absurd (omega (arith, p.0))
match_on (source ∷ entries) text other rest first is (inl sure) p =
    only_first source entries (text ++ rest) (other ++ rest) first (sure_law source text rest is sure.0).0 (sure_law source other rest is sure.1).0 p
match_on (source ∷ entries) text other rest None is (inr same) p =
    All-cons (λ s. ¬ (Holds s (other ++ rest))) source entries
    (λ held. p 0 [] (omega arith) (holds_on source other text rest (λ term. ((same.0 term).1, (same.0 term).0)) held))
    (match_on entries text other rest None is same.1 (All-tail (λ s. ¬ (Holds s (text ++ rest))) source entries p))
match_on (source ∷ entries) text other rest (Some zero) is (inr same) p =
    (omega arith, holds_on source text other rest same.0 p.1, λ k below. absurd (omega arith))
match_on (source ∷ entries) text other rest (Some (suc i)) is (inr same) p =
    let later = match_on entries text other rest (Some i) is same.1 (omega (arith, p.0), p.1, λ k below. p.2 (suc k) (omega arith)) in
    (omega (arith, later.0), later.1, before later.2)
  where
    before : ((k : ℕ) → k < i → ¬ (Holds (entry_at entries k) (other ++ rest))) → (k : ℕ) → k < suc i → ¬ (Holds (entry_at (source ∷ entries) k) (other ++ rest))
    before later zero below held = p.2 0 (omega arith) (holds_on source other text rest (λ term. ((same.0 term).1, (same.0 term).0)) held)
    before later (suc k) below held = later k (omega arith) held

pub same_match : SameMatchLaw
same_match entries text other rest first is same = (
  match_on entries text other rest first is same,
  match_on entries other text rest first is (same_symmetric entries text other same),
)
