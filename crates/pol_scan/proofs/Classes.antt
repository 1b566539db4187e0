-- Different words stand in different classes: no more of them than there are classes.
use Rattle.std.proofs.Common.{◌≡◌, ◌⊎◌, ◌<◌, ◌≤◌, ℕ, List, [], length, sym, ◌∙◌, subst, inl, inr, arith}
use Rattle.std.specs.List.{All, AllPairs, slice_index_or}
use Rattle.std.proofs.lemmas.Bool.{cases_lt}
use Rattle.std.proofs.lemmas.List.{get_or_past, get_or_default}
use Rattle.std.proofs.lemmas.List.Elements.{All-nil}
use Rattle.pol_scan.specs.Words.{IsWord, word_at}
use Rattle.pol_scan.proofs.Counting.{at_most}
use Rattle.pol_scan.specs.Congruence.{Congruence, AreDifferent, HasIndex, HasIndexAbove, HasNumbersBelow, Keeps}

-- past the last word the empty one stands
pub word_anywhere : (width : ℕ) (words : List (List ℕ)) → All (IsWord width) words → (i : ℕ) → IsWord width (word_at words i)
word_anywhere width words all i = by (cases_lt i (length words))
  where
    by : (i < length words) ⊎ (length words ≤ i) → IsWord width (word_at words i)
    by (inl h) = all i [] h
    by (inr h) = subst (IsWord width) (sym (get_or_past words i [] h)) (All-nil (λ x. x < width))

module _ (congruence : Congruence) (words : List (List ℕ)) where
  -- of different words two that are the same stand at one place
  pub one_place : AllPairs (λ u v. ¬ (congruence.same u v)) words
      → (i j : ℕ) → i < length words → j < length words → congruence.same (word_at words i) (word_at words j) → i ≡ j
  one_place different i j p q h = by (cases_lt i j) (cases_lt j i)
    where
      by : (i < j) ⊎ (j ≤ i) → (j < i) ⊎ (i ≤ j) → i ≡ j
      by (inl k) r = absurd (different i j [] k q h)
      by (inr k) (inl r) = absurd (different j i [] r p (congruence.symmetric (word_at words i) (word_at words j) h))
      by (inr k) (inr r) = omega arith

module _ (congruence : Congruence) (bound : ℕ) (has : HasNumbersBelow congruence bound) (words : List (List ℕ)) (different : AreDifferent congruence words) where
  -- the number of the word at a place
  number_at : ℕ → ℕ
  number_at i = has.number (word_at words i) (word_anywhere congruence.width words different.all_words i)

  number_below : (i : ℕ) → number_at i < bound
  unfolding number_at
  number_below i = has.below (word_at words i) (word_anywhere congruence.width words different.all_words i)

  one_of_each : (i j : ℕ) → i < length words → j < length words → number_at i ≡ number_at j → i ≡ j
  unfolding number_at
  one_of_each i j p q e = one_place congruence words different.different i j p q
      (has.tells (word_at words i) (word_at words j) (word_anywhere congruence.width words different.all_words i) (word_anywhere congruence.width words different.all_words j) e)

  -- there are no more different words than numbers
  pub no_more : length words ≤ bound
  no_more = at_most (length words) bound number_at (λ i p. number_below i) one_of_each

module _ (congruence : Congruence) (index : ℕ) (has : HasIndex congruence index) where
  in_class : (word : List ℕ) (p : IsWord congruence.width word) → congruence.same word (word_at has.words (has.complete word p).0)
  in_class word p =
      let c = has.complete word p in
      subst (congruence.same word) (sym c.3 ∙ get_or_default has.words c.0 c.1 [] c.2) c.4

  -- where there are so many classes, their places number them
  pub numbers : HasNumbersBelow congruence index
  numbers = record {
    number = λ word p. (has.complete word p).0;
    below = λ word p. subst (λ n. (has.complete word p).0 < n) has.many (has.complete word p).2;
    tells = λ u v p q e. congruence.transitive u (word_at has.words (has.complete u p).0) v (in_class u p)
        (congruence.symmetric v (word_at has.words (has.complete u p).0) (subst (λ k. congruence.same v (word_at has.words k)) (sym e) (in_class v q)));
  }

-- and there are no more than so many
pub excludes : (congruence : Congruence) (index limit : ℕ) → HasIndex congruence index → index ≤ limit → ¬ (HasIndexAbove congruence limit)
excludes congruence index limit has few above = omega (arith, no_more congruence index (numbers congruence index has) above.words above.different, above.many)

-- ---- what was known before is what is known now

pub different_before : {S : Type 0} (old new : Congruence) (led leads : List ℕ → S → Type 0) → Keeps old led new leads → (words : List (List ℕ)) → AreDifferent new words → AreDifferent old words
different_before old new led leads keeps words d = record {
  all_words = subst (λ w. All (IsWord w) words) keeps.columns d.all_words;
  different = λ i j e h k alike. d.different i j e h k ((keeps.alike (slice_index_or words i e) (slice_index_or words j e)).0 alike);
}

pub above_before : {S : Type 0} (old new : Congruence) (led leads : List ℕ → S → Type 0) → Keeps old led new leads → (limit : ℕ) → HasIndexAbove new limit → HasIndexAbove old limit
above_before old new led leads keeps limit above = record {
  words = above.words;
  many = above.many;
  different = different_before old new led leads keeps above.words above.different;
}

-- numbers of the classes stay numbers of the same classes
pub numbers_now : {S : Type 0} (old new : Congruence) (led leads : List ℕ → S → Type 0) → Keeps old led new leads
    → (bound : ℕ) → HasNumbersBelow old bound → HasNumbersBelow new bound
numbers_now old new led leads keeps bound has = record {
  number = λ word p. has.number word (subst (λ w. IsWord w word) keeps.columns p);
  below = λ word p. has.below word (subst (λ w. IsWord w word) keeps.columns p);
  tells = λ u v p q e. (keeps.alike u v).0 (has.tells u v (subst (λ w. IsWord w u) keeps.columns p) (subst (λ w. IsWord w v) keeps.columns q) e);
}
