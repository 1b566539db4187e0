-- Texts of which the decision changed, from pairs of states.
use Rattle.std.proofs.Common.{◌≡◌, ◌<◌, ◌+◌, ◌*◌, ◌/◌, ◌↔◌, ℕ, IsTrue, List, refl, sym, subst, ap, ◌∙◌, arith}
use Rattle.std.proofs.Math.Nat.{mul-le-mul_left}
use Rattle.std.proofs.lemmas.Nat.{div-mul-add}
use Rattle.basics.specs.Symbol.{is_text}
use Rattle.basics.specs.TextOrder.{IsLeast}
use Rattle.pol_names.specs.declared.decision.Verdict.{Verdict}
use Rattle.pol_names.specs.declared.decision.Verdict.TheVariants.{Permit, Deny}
use Rattle.pol_scan.specs.Alphabet.{Alphabet, IsAlphabet, IsTextThat, word_of, text_of}
use Rattle.pol_scan.specs.Words.{IsWord, IsWordThat}
use Rattle.pol_scan.specs.Table.{count}
use Rattle.pol_scan.specs.Congruence.{HasNumbersBelow}
use Rattle.pol_automaton.specs.declared.way.Way.{Way}
use Rattle.pol_automaton.specs.declared.way.Way.TheVariants.{NowPermitted, NowDenied}
use Rattle.pol_automaton.specs.Decision.{verdict_by, IsDecided, verdict_before, verdict_after, ruling, IsChanged, IsLeastChange}
use Rattle.pol_automaton.specs.Automaton.{Automaton, state_of, first_of, IsWhole, IsDecider}
use Rattle.pol_automaton.specs.Pairs.{pairs, is_change, comparison_of, changes_at, changes}
use Rattle.pol_automaton.proofs.Words.{is_word, spells_text}
use Rattle.pol_automaton.proofs.Columns.{Refines, state_spelled}
use Rattle.pol_automaton.proofs.Reaching.{first_one, least_same}

-- ---- pairs in numbers

pub state_within : (alphabet : Alphabet) → IsAlphabet alphabet → (a : Automaton) → IsWhole a → (word : List ℕ) → IsWord alphabet.width word → state_of a (text_of alphabet word) < count a.table
state_within alphabet letters a whole word is =
    let text = text_of alphabet word in
    whole.within (word_of a.alphabet text)
    (subst (λ (n : ℕ). IsWord n (word_of a.alphabet text)) (sym whole.columns) (is_word a.alphabet whole.letters text (spells_text alphabet letters word is)))

below_product : (m n i j : ℕ) → i < m → j < n → i * n + j < m * n
below_product m n i j h k = grind (arith, mul-le-mul_left)

one_pair : (n i j k l : ℕ) → j < n → l < n → i * n + j ≡ k * n + l → (i ≡ k) × (j ≡ l)
one_pair n i j k l p q e =
    let same : i ≡ k = sym (div-mul-add i n j p) ∙ ap (λ m. m / n) e ∙ div-mul-add k n l q in
    let rows : i * n ≡ k * n = ap (λ m. m * n) same in
    (same, omega arith)

pub pair_numbers : (alphabet : Alphabet) → IsAlphabet alphabet → (a b : Automaton) → IsWhole a → IsWhole b → HasNumbersBelow (pairs alphabet a b) (count a.table * count b.table)
pair_numbers alphabet letters a b p q = record {
  number = λ word is. state_of a (text_of alphabet word) * count b.table + state_of b (text_of alphabet word);
  below = λ word is.
      below_product (count a.table) (count b.table) (state_of a (text_of alphabet word)) (state_of b (text_of alphabet word)) (state_within alphabet letters a p word is) (state_within alphabet letters b q word is);
  tells = λ u v is_u is_v e.
      one_pair (count b.table) (state_of a (text_of alphabet u)) (state_of b (text_of alphabet u)) (state_of a (text_of alphabet v)) (state_of b (text_of alphabet v))
      (state_within alphabet letters b q u is_u) (state_within alphabet letters b q v is_v) e;
}

-- ---- changes

change_is : (way : Way) (before after : Verdict) → IsTrue (is_change way before after) → (before ≡ verdict_before way) × (after ≡ verdict_after way)
change_is NowPermitted Deny Permit h = (refl, refl)
change_is NowPermitted Deny Deny h = absurd cc
change_is NowPermitted Permit after h = absurd cc
change_is NowDenied Permit Deny h = (refl, refl)
change_is NowDenied Permit Permit h = absurd cc
change_is NowDenied Deny after h = absurd cc

is_so : (way : Way) → IsTrue (is_change way (verdict_before way) (verdict_after way))
is_so NowPermitted = refl
is_so NowDenied = refl

module _ (old : Automaton) (old_verdicts : List Verdict) (new : Automaton) (new_verdicts : List Verdict) (way : Way) (before after : List (List ℕ)) (d : IsDecider old before) (e : IsDecider new after) where
  decided_is : (a : Automaton) (entries : List (List ℕ)) (verdicts : List Verdict) (verdict : Verdict) (text : List ℕ) → IsDecider a entries → IsTrue (is_text text)
      → IsDecided entries verdicts text verdict → verdict_by verdicts (first_of a (state_of a text)) ≡ verdict
  decided_is a entries verdicts verdict text is h w =
      ap (verdict_by verdicts) (first_one entries text (first_of a (state_of a text)) w.0 (is.firsts text h) w.1) ∙ w.2

  pub changed_by : (text : List ℕ) → IsTextThat (λ t. IsTrue (changes (comparison_of old old_verdicts new new_verdicts way) t)) text ↔ IsChanged (ruling before old_verdicts) (ruling after new_verdicts) way text
  unfolding changes
  changed_by text = (
    λ p.
        let w = change_is way (verdict_by old_verdicts (first_of old (state_of old text))) (verdict_by new_verdicts (first_of new (state_of new text))) p.1 in
        (p.0, ((first_of old (state_of old text), d.firsts text p.0, w.0), (first_of new (state_of new text), e.firsts text p.0, w.1))),
    λ p.
        let was = decided_is old before old_verdicts (verdict_before way) text d p.0 p.1.0 in
        let is = decided_is new after new_verdicts (verdict_after way) text e p.0 p.1.1 in (
          p.0,
          subst (λ v. IsTrue (is_change way v (verdict_by new_verdicts (first_of new (state_of new text))))) (sym was)
              (subst (λ v. IsTrue (is_change way (verdict_before way) v)) (sym is) (is_so way)),
        ),
  )

  -- what is spelled of a text by a finer alphabet changed as the text did
  changed_spelled : (alphabet : Alphabet) → IsAlphabet alphabet → Refines alphabet old.alphabet → Refines alphabet new.alphabet → (text : List ℕ) → IsTrue (is_text text)
      → changes (comparison_of old old_verdicts new new_verdicts way) (text_of alphabet (word_of alphabet text)) ≡ changes (comparison_of old old_verdicts new new_verdicts way) text
  unfolding changes
  changed_spelled alphabet letters was is text h =
      let compared = comparison_of old old_verdicts new new_verdicts way in
      ap (λ n. changes_at compared n (state_of new (text_of alphabet (word_of alphabet text)))) (state_spelled alphabet letters old was text h)
      ∙ ap (changes_at compared (state_of old text)) (state_spelled alphabet letters new is text h)

  pub least_change : (alphabet : Alphabet) → IsAlphabet alphabet → Refines alphabet old.alphabet → Refines alphabet new.alphabet → (text : List ℕ)
      → IsLeast (IsTextThat (λ t. IsTrue (changes (comparison_of old old_verdicts new new_verdicts way) (text_of alphabet (word_of alphabet t))))) text
      → IsLeastChange (ruling before old_verdicts) (ruling after new_verdicts) way text
  least_change alphabet letters was is text least =
      least_same _ _ text
      (λ t. (
        λ p. (changed_by t).0 (p.0, subst IsTrue (changed_spelled alphabet letters was is t p.0) p.1),
        λ q. let p = (changed_by t).1 q in (p.0, subst IsTrue (sym (changed_spelled alphabet letters was is t p.0)) p.1),
      )) least

  pub no_change : (alphabet : Alphabet) → IsAlphabet alphabet → Refines alphabet old.alphabet → Refines alphabet new.alphabet
      → ((word : List ℕ) → ¬ (IsWordThat alphabet.width (λ w. IsTrue (changes (comparison_of old old_verdicts new new_verdicts way) (text_of alphabet w))) word))
      → (text : List ℕ) → ¬ (IsChanged (ruling before old_verdicts) (ruling after new_verdicts) way text)
  no_change alphabet letters was is none text q =
      let p = (changed_by text).1 q in
      none (word_of alphabet text)
      (is_word alphabet letters text p.0, subst IsTrue (sym (changed_spelled alphabet letters was is text p.0)) p.1)
