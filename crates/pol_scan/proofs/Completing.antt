-- Once each found state's row is known, the table is the automaton.
use Rattle.std.proofs.Common.{◌≡◌, ◌⊎◌, ◌<◌, ◌≤◌, ◌+◌, ◌*◌, ℕ, Bool, IsTrue, List, [], length, refl, sym, ap, ◌∙◌, subst, inl, inr, arith}
use Rattle.std.specs.List.{AllPairs, slice_index}
use Rattle.std.proofs.lemmas.Bool.{cases_lt}
use Rattle.std.proofs.lemmas.List.{get_or_default}
use Rattle.std.proofs.lemmas.Nat.{mul-add-lt}
use Rattle.std.proofs.lemmas.List.Sums.{fold_push}
use Rattle.basics.specs.TextOrder.{IsBefore}
use Rattle.pol_scan.proofs.OrderFacts.{before_irreflexive, before_transitive}
use Rattle.pol_scan.specs.Words.{IsWord, word_at, longer}
use Rattle.pol_scan.specs.Congruence.{Congruence, AreDifferent, HasIndex, Keeps}
use Rattle.pol_scan.specs.Table.{Table, next, walk, count, IsWhole, IsAutomatonOf}
use Rattle.pol_scan.specs.Discovery.{IsUpTo, IsCell, StandsAt}
use Rattle.pol_scan.proofs.OrderUp.{up_to_excludes, up_to_before}
use Rattle.pol_scan.proofs.Reaching.{Stands, stands_on}
use Rattle.pol_scan.proofs.Classes.{one_place, different_before}

-- what is known of a table whose scan has ended
pub record IsComplete (congruence : Congruence) (table : Table) : Type 0 where
  pub columns : table.width ≡ congruence.width
  pub different : AreDifferent congruence table.words
  pub rising : AllPairs IsBefore table.words
  pub first : (0 < count table) × (word_at table.words 0 ≡ [])
  pub rows : (state column : ℕ) → state < count table → column < congruence.width → IsCell congruence table.words state column (next table state column)

module _ (congruence : Congruence) (table : Table) (known : IsComplete congruence table) where
  Walked : List ℕ → ℕ → Type 0
  Walked word state = walk table word ≡ state

  -- the state to which a word leads represents it
  walked : (word : List ℕ) → IsWord congruence.width word → Stands congruence table.words Walked word
  unfolding Walked
  walked word w = stands_on congruence table.words Walked (λ _. Unit {0}) (λ _ _ _. tt)
      (λ u column s in_range _. (
        next table s.state column,
        known.rows s.state column s.within in_range,
        fold_push (next table) 0 u column ∙ ap (λ k. next table k column) s.fits,
      ))
      [] word w tt
      (record {
        state = 0;
        within = known.first.0;
        alike = subst (congruence.same []) (sym known.first.1) (congruence.reflexive []);
        no_later = inl known.first.1;
        fits = refl;
      })

  within : (word : List ℕ) → IsWord congruence.width word → walk table word < count table
  unfolding Walked
  within word w = let s = walked word w in subst (λ k. k < count table) (sym s.fits) s.within

  -- its word is the same, and comes no later
  alike : (word : List ℕ) → IsWord congruence.width word → congruence.same word (word_at table.words (walk table word))
  unfolding Walked
  alike word w = let s = walked word w in subst (λ k. congruence.same word (word_at table.words k)) (sym s.fits) s.alike

  no_later : (word : List ℕ) → IsWord congruence.width word → IsUpTo (word_at table.words (walk table word)) word
  unfolding Walked
  no_later word w = let s = walked word w in subst (λ k. IsUpTo (word_at table.words k) word) (sym s.fits) s.no_later

  -- a kept word leads to its state
  own_state : (state : ℕ) → state < count table → walk table (word_at table.words state) ≡ state
  own_state state h =
      let w = known.different.all_words state [] h in
      sym (one_place congruence table.words known.different.different state (walk table (word_at table.words state)) h
      (within (word_at table.words state) w) (alike (word_at table.words state) w))

  -- a word that leads to a later state comes no earlier
  first_least : (test : ℕ → Bool) (state : ℕ) → state < count table → ((k : ℕ) → k < state → ¬ (IsTrue (test k)))
      → (word : List ℕ) → IsWord congruence.width word → IsTrue (test (walk table word)) → ¬ (IsBefore word (word_at table.words state))
  first_least test state h none word w passes = by (cases_lt (walk table word) state) (cases_lt state (walk table word))
    where
      later : ¬ (IsBefore (word_at table.words (walk table word)) (word_at table.words state)) → ¬ (IsBefore word (word_at table.words state))
      later not_before earlier = not_before
          (up_to_before (word_at table.words (walk table word)) word (word_at table.words state) (no_later word w) earlier)

      by : (walk table word < state) ⊎ (state ≤ walk table word) → (state < walk table word) ⊎ (walk table word ≤ state) → ¬ (IsBefore word (word_at table.words state))
      by (inl k) r = absurd (none (walk table word) k passes)
      by (inr k) (inl r) = later (λ e. before_irreflexive (word_at table.words state)
          (before_transitive (word_at table.words state) (word_at table.words (walk table word)) (word_at table.words state)
          (known.rising state (walk table word) [] r (within word w)) e))
      by (inr k) (inr r) = later (let e : walk table word ≡ state = omega arith in
          subst (λ i. ¬ (IsBefore (word_at table.words i) (word_at table.words state))) (sym e) (before_irreflexive (word_at table.words state)))

  pub automaton : IsAutomatonOf congruence table
  automaton = record {
    columns = known.columns;
    within = within;
    tells = λ u v p q. (
      λ e. congruence.transitive u (word_at table.words (walk table u)) v (alike u p)
          (congruence.symmetric v (word_at table.words (walk table u)) (subst (λ k. congruence.same v (word_at table.words k)) (sym e) (alike v q))),
      λ h. one_place congruence table.words known.different.different (walk table u) (walk table v) (within u p) (within v q)
          (congruence.transitive (word_at table.words (walk table u)) u (word_at table.words (walk table v))
          (congruence.symmetric u (word_at table.words (walk table u)) (alike u p))
          (congruence.transitive u v (word_at table.words (walk table v)) h (alike v q))),
    );
    least = λ state h. (
      (known.different.all_words state [] h, own_state state h),
      λ word at. up_to_excludes (word_at table.words state) word
          (subst (λ k. IsUpTo (word_at table.words k) word) at.1 (no_later word at.0)),
    );
    rising = known.rising;
    firsts = λ test state h passes none. (
      (known.different.all_words state [] h, subst (λ k. IsTrue (test k)) (sym (own_state state h)) passes),
      λ word at. first_least test state h none word at.0 at.1,
    );
  }

  -- the kept words are one of each class
  pub index : HasIndex congruence (count table)
  index = record {
    words = table.words;
    many = refl;
    different = known.different;
    complete = λ word w. (
      walk table word,
      word_at table.words (walk table word),
      within word w,
      get_or_default table.words (walk table word) (word_at table.words (walk table word)) [] (within word w),
      alike word w,
    );
  }

-- ---- a scan that has come to its end

module _ {S : Type 0} (congruence : Congruence) (leads : List ℕ → S → Type 0) (width : ℕ) (columns : width ≡ congruence.width)
    (words : List (List ℕ)) (states : List S) (cells : List ℕ) (stands : StandsAt congruence leads words states cells (length words) 0) where
  size : length cells ≡ length words * width
  size = subst (λ w. length cells ≡ length words * w) (sym columns) (omega (arith, stands.filled.size))

  -- each state has a whole row
  pub whole : (most : ℕ) → length words ≤ most → IsWhole most (record { width = width; cells = cells; words = words })
  whole most few = record { few = few; first = stands.found.first.0; size = size; within = stands.filled.within }

  row : (state column : ℕ) → state < length words → column < width → IsCell congruence words state column (slice_index cells (state * width + column))
  row state column from in_range =
      let within : state * width + column < length cells = omega (arith, size, mul-add-lt state width column (length words) from in_range) in
      subst (λ w. IsCell congruence words state column (slice_index cells (state * w + column))) (sym columns)
      (stands.filled.rows state column (subst (λ w. column < w) columns in_range) (subst (λ w. state * w + column < length cells) columns within))

  -- the same of what was known in the beginning
  pub complete : (first : Congruence) (led : List ℕ → S → Type 0) → Keeps first led congruence leads → IsComplete first (record { width = width; cells = cells; words = words })
  complete first led keeps = record {
    columns = columns ∙ keeps.columns;
    different = different_before first congruence led leads keeps words stands.found.different;
    rising = stands.found.rising;
    first = stands.found.first;
    rows = λ state column from in_range.
        let cell = row state column from (subst (λ w. column < w) (sym (columns ∙ keeps.columns)) in_range) in
        let next = slice_index cells (state * width + column) in
        record {
          from = cell.from;
          within = cell.within;
          leads = (keeps.alike (longer (word_at words state) column) (word_at words next)).1 cell.leads;
          no_later = cell.no_later;
        };
  }
