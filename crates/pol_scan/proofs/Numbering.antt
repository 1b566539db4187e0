-- Symbols are numbered by their keys, in the order in which these come first.
use Rattle.std.proofs.Common.{◌≡◌, ◌≢◌, ◌⊎◌, inl, inr, ◌<◌, ◌≤◌, ◌+◌, ◌-◌, ℕ, IsTrue, List, length, set, slice_index, sym, ap, ◌∙◌, subst, arith, below_more}
use Rattle.std.proofs.lemmas.Bool.{cases_lt}
use Rattle.std.proofs.lemmas.List.{length-set, get_or-set_same, get_or-set_other}
use Rattle.basics.specs.Symbol.{is_symbol}
use Rattle.pol_scan.specs.Alphabet.{IsAlphabet, HasClasses, label_of}
use Rattle.pol_scan.proofs.AlphabetFacts.{symbol_range, in_range}

-- What is known when so many keys were read: the column of each of these symbols, and of each
-- column its key and its least symbol
pub record AreNumbered (keys firsts columns least : List ℕ) (width count : ℕ) : Type 0 where
  pub few : width ≤ count
  pub firsts_size : length firsts ≡ 95
  pub columns_size : length columns ≡ 95
  pub least_size : length least ≡ 95
  pub within : (i : ℕ) → i < count → slice_index columns i < width
  pub keyed : (i : ℕ) → i < count → slice_index firsts (slice_index columns i) ≡ slice_index keys i
  pub earlier : (i : ℕ) → i < count → slice_index least (slice_index columns i) ≤ 32 + i
  pub symbols : (k : ℕ) → k < width → (32 ≤ slice_index least k) × (slice_index least k < 32 + count)
  pub own : (k : ℕ) → k < width → slice_index columns (slice_index least k - 32) ≡ k
  pub rising : (k l : ℕ) → k < l → l < width → slice_index least k < slice_index least l
  pub different : (k l : ℕ) → k < l → l < width → slice_index firsts k ≢ slice_index firsts l

module _ (keys firsts columns least : List ℕ) (width count : ℕ) (n : AreNumbered keys firsts columns least width count) (room : count < 95) where
  -- the column of one symbol more
  new_column : (column : ℕ) → slice_index (set columns count column) count ≡ column
  new_column column = get_or-set_same columns count column 0 (omega (arith, n.columns_size))

  old_column : (column i : ℕ) → i < count → slice_index (set columns count column) i ≡ slice_index columns i
  old_column column i lt = get_or-set_other columns count i column 0 (omega arith)

  own_column : (column k : ℕ) → k < width → slice_index (set columns count column) (slice_index least k - 32) ≡ k
  own_column column k lt =
      let before = n.symbols k lt in
      old_column column (slice_index least k - 32) (omega (arith, before.0, before.1)) ∙ n.own k lt

  -- of a key that was met before
  pub found_again : (column : ℕ) → column < width → slice_index firsts column ≡ slice_index keys count
      → AreNumbered keys firsts (set columns count column) least width (count + 1)
  found_again column lt same = record {
    few = omega (arith, n.few);
    firsts_size = n.firsts_size;
    columns_size = length-set columns count column ∙ n.columns_size;
    least_size = n.least_size;
    within = below_more (λ i. slice_index (set columns count column) i < width) count
        (λ i h. subst (λ k. k < width) (sym (old_column column i h)) (n.within i h))
        (subst (λ k. k < width) (sym (new_column column)) lt);
    keyed = below_more (λ i. slice_index firsts (slice_index (set columns count column) i) ≡ slice_index keys i) count
        (λ i h. ap (slice_index firsts) (old_column column i h) ∙ n.keyed i h)
        (ap (slice_index firsts) (new_column column) ∙ same);
    earlier = below_more (λ i. slice_index least (slice_index (set columns count column) i) ≤ 32 + i) count
        (λ i h. subst (λ k. slice_index least k ≤ 32 + i) (sym (old_column column i h)) (n.earlier i h))
        (subst (λ k. slice_index least k ≤ 32 + count) (sym (new_column column)) (omega (arith, (n.symbols column lt).1)));
    symbols = λ k h. ((n.symbols k h).0, omega (arith, (n.symbols k h).1));
    own = own_column column;
    rising = n.rising;
    different = n.different;
  }

  new_least : slice_index (set least width (32 + count)) width ≡ 32 + count
  new_least = get_or-set_same least width (32 + count) 0 (omega (arith, n.few, n.least_size))

  old_least : (k : ℕ) → k < width → slice_index (set least width (32 + count)) k ≡ slice_index least k
  old_least k lt = get_or-set_other least width k (32 + count) 0 (omega arith)

  new_first : (key : ℕ) → slice_index (set firsts width key) width ≡ key
  new_first key = get_or-set_same firsts width key 0 (omega (arith, n.few, n.firsts_size))

  old_first : (key k : ℕ) → k < width → slice_index (set firsts width key) k ≡ slice_index firsts k
  old_first key k lt = get_or-set_other firsts width k key 0 (omega arith)

  -- of a new key
  pub found_new : ((k : ℕ) → k < width → slice_index firsts k ≢ slice_index keys count)
      → AreNumbered keys (set firsts width (slice_index keys count)) (set columns count width) (set least width (32 + count)) (width + 1) (count + 1)
  found_new others = record {
    few = omega (arith, n.few);
    firsts_size = length-set firsts width key ∙ n.firsts_size;
    columns_size = length-set columns count width ∙ n.columns_size;
    least_size = length-set least width (32 + count) ∙ n.least_size;
    within = below_more (λ i. slice_index now i < width + 1) count
        (λ i h. let was = n.within i h in omega (arith, old_column width i h, was))
        (omega (arith, new_column width));
    keyed = below_more (λ i. slice_index (set firsts width key) (slice_index now i) ≡ slice_index keys i) count
        (λ i h. ap (slice_index (set firsts width key)) (old_column width i h)
        ∙ old_first key (slice_index columns i) (n.within i h) ∙ n.keyed i h)
        (ap (slice_index (set firsts width key)) (new_column width) ∙ new_first key);
    earlier = below_more (λ i. slice_index more (slice_index now i) ≤ 32 + i) count
        (λ i h. let is = ap (slice_index more) (old_column width i h) ∙ old_least (slice_index columns i) (n.within i h) in
        omega (arith, is, n.earlier i h))
        (let is = ap (slice_index more) (new_column width) ∙ new_least in omega (arith, is));
    symbols = below_more (λ k. (32 ≤ slice_index more k) × (slice_index more k < 32 + (count + 1))) width
        (λ k h. (omega (arith, old_least k h, (n.symbols k h).0), omega (arith, old_least k h, (n.symbols k h).1)))
        (omega (arith, new_least), omega (arith, new_least));
    own = below_more (λ k. slice_index now (slice_index more k - 32) ≡ k) width
        (λ k h. ap (λ s. slice_index now (s - 32)) (old_least k h) ∙ own_column width k h)
        (ap (λ s. slice_index now (s - 32)) new_least ∙ ap (slice_index now) (omega arith) ∙ new_column width);
    rising = λ k l lt in_width. rising_at k l lt (below in_width);
    different = λ k l lt in_width. different_at k l lt (below in_width);
  }
    where
      key : ℕ
      key = slice_index keys count

      now : List ℕ
      now = set columns count width

      more : List ℕ
      more = set least width (32 + count)

      below : {l : ℕ} → l < width + 1 → (l < width) ⊎ (l ≡ width)
      below {l} h = elim (cases_lt l width) [ inl p ↦ inl p | inr p ↦ inr (omega arith) ]

      rising_at : (k l : ℕ) → k < l → (l < width) ⊎ (l ≡ width) → slice_index more k < slice_index more l
      rising_at k l lt (inl h) = omega (arith, old_least k (omega arith), old_least l h, n.rising k l lt h)
      rising_at k l lt (inr e) =
          let last = ap (slice_index more) e ∙ new_least in
          omega (arith, old_least k (omega arith), last, (n.symbols k (omega arith)).1)

      different_at : (k l : ℕ) → k < l → (l < width) ⊎ (l ≡ width) → slice_index (set firsts width key) k ≢ slice_index (set firsts width key) l
      different_at k l lt (inl h) e = n.different k l lt h (sym (old_first key k (omega arith)) ∙ e ∙ old_first key l h)
      different_at k l lt (inr same) e =
          others k (omega arith) (sym (old_first key k (omega arith)) ∙ e ∙ ap (slice_index (set firsts width key)) same ∙ new_first key)

-- ---- when all were read

module _ (keys firsts columns least : List ℕ) (width : ℕ) (n : AreNumbered keys firsts columns least width 95) where
  pub numbered_alphabet : IsAlphabet (record { width = width; columns = columns; least = least })
  numbered_alphabet = record {
    few = n.few;
    within = λ symbol h. n.within (symbol - 32) (place_within symbol h);
    least = λ symbol h.
        let range = symbol_range symbol h in
        omega (arith, n.earlier (symbol - 32) (place_within symbol h), range.0);
    symbols = λ column lt. in_range (slice_index least column) (n.symbols column lt).0 (omega (arith, (n.symbols column lt).1));
    own = n.own;
    rising = n.rising;
  }
    where
      place_within : (symbol : ℕ) → IsTrue (is_symbol symbol) → symbol - 32 < 95
      place_within symbol h = let range = symbol_range symbol h in omega (arith, range.0, range.1)

  one_column : (i j : ℕ) → i < 95 → j < 95 → slice_index keys i ≡ slice_index keys j → slice_index columns i ≡ slice_index columns j
  one_column i j p q e = by (cases_lt (slice_index columns i) (slice_index columns j)) (cases_lt (slice_index columns j) (slice_index columns i))
    where
      same : slice_index firsts (slice_index columns i) ≡ slice_index firsts (slice_index columns j)
      same = n.keyed i p ∙ e ∙ sym (n.keyed j q)

      by : (slice_index columns i < slice_index columns j) ⊎ (slice_index columns j ≤ slice_index columns i)
          → (slice_index columns j < slice_index columns i) ⊎ (slice_index columns i ≤ slice_index columns j)
          → slice_index columns i ≡ slice_index columns j
      by (inl h) r = absurd (n.different (slice_index columns i) (slice_index columns j) h (n.within j q) same)
      by (inr h) (inl k) = absurd (n.different (slice_index columns j) (slice_index columns i) k (n.within i p) (sym same))
      by (inr h) (inr k) = omega arith

  pub numbered_classes : HasClasses (record { width = width; columns = columns; least = least }) (λ a b. label_of keys a ≡ label_of keys b)
  numbered_classes a b p q =
      let first = symbol_range a p in
      let second = symbol_range b q in
      let i : a - 32 < 95 = omega (arith, first.0, first.1) in
      let j : b - 32 < 95 = omega (arith, second.0, second.1) in (
        λ e. sym (n.keyed (a - 32) i) ∙ ap (slice_index firsts) e ∙ n.keyed (b - 32) j,
        λ e. one_column (a - 32) (b - 32) i j e,
      )
