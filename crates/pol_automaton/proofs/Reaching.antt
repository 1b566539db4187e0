-- The least text that an entry decides.
use Rattle.std.proofs.Common.{◌≡◌, ◌<◌, ◌≤◌, ◌↔◌, ◌⊎◌, inl, inr, ℕ, Bool, false, ◌==◌, IsTrue, List, [], Option, None, Some, refl, sym, subst, ap, arith}
use Rattle.std.proofs.lemmas.Bool.{cases_lt, eqb-true, eq-eqb}
use Rattle.basics.specs.TextOrder.{IsLeast}
use Rattle.pol_scan.specs.Alphabet.{IsTextThat, word_of}
use Rattle.pol_scan.specs.Words.{IsWordThat, IsWord}
use Rattle.pol_scan.specs.Table.{count, walk}
use Rattle.pol_scan.specs.Table.{word_of as found_along}
use Rattle.pol_automaton.specs.Decision.{IsFirstMatch, Decides, IsReachText}
use Rattle.pol_automaton.specs.Automaton.{Automaton, state_of, first_of, IsWhole, IsDecider}
use Rattle.pol_automaton.proofs.Words.{is_word}
use Rattle.pol_automaton.specs.Reaching.{IsFirstState, NoState}

-- there is one first match
pub first_one : (entries : List (List ℕ)) (text : List ℕ) (a b : Option ℕ) → IsFirstMatch entries text a → IsFirstMatch entries text b → a ≡ b
first_one entries text None None p q = refl
first_one entries text None (Some j) p q = absurd (p j [] q.0 q.1)
first_one entries text (Some i) None p q = absurd (q i [] p.0 p.1)
first_one entries text (Some i) (Some j) p q = ap Some (by (cases_lt i j) (cases_lt j i))
  where
    by : (i < j) ⊎ (j ≤ i) → (j < i) ⊎ (i ≤ j) → i ≡ j
    by (inl k) r = absurd (q.2 i k p.1)
    by (inr k) (inl r) = absurd (p.2 j r q.1)
    by (inr k) (inr r) = omega arith

pub least_same : (A B : List ℕ → Type 0) (text : List ℕ) → ((t : List ℕ) → A t ↔ B t) → IsLeast A text → IsLeast B text
least_same A B text same least = ((same text).0 least.0, λ other h. least.1 other ((same other).1 h))

abbrev pub is_entry : ℕ → Option ℕ → Bool
is_entry entry None = false
is_entry entry (Some i) = i == entry

entry_is : (entry : ℕ) (first : Option ℕ) → IsTrue (is_entry entry first) → first ≡ Some entry
entry_is entry None h = absurd cc
entry_is entry (Some i) h = ap Some (eqb-true i entry h)

is_own : (entry : ℕ) (first : Option ℕ) → first ≡ Some entry → IsTrue (is_entry entry first)
is_own entry first e = subst (λ f. IsTrue (is_entry entry f)) (sym e) (eq-eqb entry entry refl)

-- the states of which the entry is the first match
pub has_entry : Automaton → ℕ → ℕ → Bool
has_entry a entry state = is_entry entry (first_of a state)

module _ (a : Automaton) (entries : List (List ℕ)) (d : IsDecider a entries) (entry : ℕ) where
  decides_by : (text : List ℕ) → IsTextThat (λ t. IsTrue (has_entry a entry (state_of a t))) text ↔ Decides entries entry text
  unfolding has_entry
  decides_by text = (
    λ p. (p.0, subst (IsFirstMatch entries text) (entry_is entry (first_of a (state_of a text)) p.1) (d.firsts text p.0)),
    λ p. (p.0, is_own entry (first_of a (state_of a text)) (first_one entries text (first_of a (state_of a text)) (Some entry) (d.firsts text p.0) p.1)),
  )

  pub least_word : (state : ℕ) → IsFirstState a entry state → IsLeast (IsWordThat a.table.width (λ word. IsTrue (has_entry a entry (walk a.table word)))) (found_along a.table state)
  unfolding has_entry
  least_word state first =
      d.leasts (λ s. is_entry entry (first_of a s)) state first.within (is_own entry (first_of a state) first.has) (λ k below h. first.none k below (entry_is entry (first_of a k) h))

  pub reach_text : (text : List ℕ) → IsLeast (IsTextThat (λ t. IsTrue (has_entry a entry (walk a.table (word_of a.alphabet t))))) text → IsReachText entries entry text
  reach_text text least = least_same (IsTextThat (λ t. IsTrue (has_entry a entry (state_of a t)))) (Decides entries entry) text decides_by least

  pub none_decided : IsWhole a → NoState a entry (count a.table) → (text : List ℕ) → ¬ (Decides entries entry text)
  none_decided whole none text p =
      let word = subst (λ (n : ℕ). IsWord n (word_of a.alphabet text)) (sym whole.columns) (is_word a.alphabet whole.letters text p.0) in
      none (state_of a text) (whole.within (word_of a.alphabet text) word) (first_one entries text (first_of a (state_of a text)) (Some entry) (d.firsts text p.0) p.1)
