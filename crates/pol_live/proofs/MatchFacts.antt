-- The first match, and what is decided by it.
use Rattle.std.proofs.Common.{◌≡◌, ℕ, zero, suc, ◌<◌, Bool, true, false, cond, List, [], ◌∷◌, length, None, Some, refl, sym, ap, ◌∙◌, arith, slice_get}
use Rattle.std.specs.Option.{option_map}
use Rattle.pol_pattern.specs.Matching.{matches, MatchLaw}
use Rattle.pol_pattern.specs.Spelling.{Holds}
use Rattle.pol_text.specs.Policy.{Entry, first_entry}
use Rattle.pol_automaton.specs.Decision.{IsFirstMatch}
use Rattle.pol_meaning.specs.Along.{patterns_of}
use Rattle.pol_live.specs.ChainRules.{chain_rule, decision_by, unmatched}

module _ (law : MatchLaw) where
  not_matched : (source line : List ℕ) → ¬ (Holds source line) → matches source line ≡ false
  not_matched source line not = by (matches source line) (λ e. not ((law.same source line).0 e))
    where
      by : (b : Bool) → (b ≡ true → ⊥) → b ≡ false
      by true h = absurd (h refl)
      by false h = refl

  pub none_decides : (es : List Entry) (line : List ℕ) → IsFirstMatch (patterns_of es) line None → first_entry es line ≡ unmatched
  none_decides [] line h = refl
  none_decides (e ∷ es) line h =
      let here : matches e.rule.pattern line ≡ false = not_matched e.rule.pattern line (h 0 [] (omega arith)) in
      ap (λ (b : Bool). cond b (decision_by (chain_rule e)) (first_entry es line)) here ∙ none_decides es line (λ k d lt. h (suc k) d (omega arith))

  -- the first match is there, and decides
  pub first_decides : (es : List Entry) (line : List ℕ) (i : ℕ) → IsFirstMatch (patterns_of es) line (Some i)
      → option_map decision_by (option_map chain_rule (slice_get es i)) ≡ Some (first_entry es line)
  first_decides [] line i h = let lt = h.0 in absurd (omega arith)
  first_decides (e ∷ es) line zero h =
      let here : matches e.rule.pattern line ≡ true = (law.same e.rule.pattern line).1 h.1 in
      ap (λ (b : Bool). Some (cond b (decision_by (chain_rule e)) (first_entry es line))) (sym here)
  first_decides (e ∷ es) line (suc i) h =
      let lt = h.0 in
      let here : matches e.rule.pattern line ≡ false = not_matched e.rule.pattern line (h.2 0 (omega arith)) in
      let later : i < length (patterns_of es) = omega arith in
      first_decides es line i (later, h.1, λ k less. h.2 (suc k) (omega arith))
      ∙ ap (λ (b : Bool). Some (cond b (decision_by (chain_rule e)) (first_entry es line))) (sym here)
