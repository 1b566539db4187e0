-- One more state is found, or a found one is found again.
use Rattle.std.proofs.Common.{◌≡◌, ◌<◌, ◌+◌, ◌↔◌, ℕ, Bool, true, false, not, cond, Some, List, [], ◌∷◌, ◌++◌, length, refl, sym, ap, ◌∙◌, subst, inl, inr, arith, true≢false, length-append, append-nil}
use Rattle.std.specs.List.{All, slice_get, slice_index_or, list_any}
use Rattle.std.proofs.lemmas.List.{get_or_default}
use Rattle.std.proofs.lemmas.List.Elements.{All-push}
use Rattle.std.proofs.lemmas.List.Quantifiers.{all_pairs_push}
use Rattle.std.proofs.lemmas.List.Folds.{list_any_at}
use Rattle.basics.specs.TextOrder.{IsBefore}
use Rattle.pol_scan.proofs.OrderFacts.{push_before}
use Rattle.pol_scan.specs.Words.{IsWord, word_at, longer, with_longer}
use Rattle.pol_scan.specs.Congruence.{Congruence, Keeps}
use Rattle.pol_scan.specs.Discovery.{IsUpTo, IsCell, AreFound, AreAfter, Advances}
use Rattle.pol_scan.proofs.Lists.{zip_push, zip_weaker, length-zip, zip_at, get_within, get_is}
use Rattle.pol_scan.proofs.OrderUp.{up_to_before}
use Rattle.pol_scan.proofs.WordFacts.{word_at-append}

-- ---- what was known stays known

pub found_kept : {S : Type 0} (old new : Congruence) (led leads : List ℕ → S → Type 0) (words : List (List ℕ)) (states : List S)
    → Keeps old led new leads → AreFound old led words states → AreFound new leads words states
found_kept old new led leads words states keeps found = record {
  different = record {
    all_words = subst (λ n. All (IsWord n) words) (sym keeps.columns) found.different.all_words;
    different = λ i j d h k alike. found.different.different i j d h k ((keeps.alike (slice_index_or words i d) (slice_index_or words j d)).1 alike);
  };
  led = zip_weaker led leads keeps.known words states found.led;
  rising = found.rising;
  first = found.first;
}

-- a cell stays one when more is known
pub cell_known : {S : Type 0} (old new : Congruence) (led leads : List ℕ → S → Type 0) → Keeps old led new leads → (words : List (List ℕ)) (state column next : ℕ) → IsCell old words state column next → IsCell new words state column next
cell_known old new led leads keeps words state column next cell = record {
  from = cell.from;
  within = cell.within;
  leads = (keeps.alike (longer (word_at words state) column) (word_at words next)).0 cell.leads;
  no_later = cell.no_later;
}

-- and when more words are found
pub cell_kept : (congruence : Congruence) (words more : List (List ℕ)) (state column next : ℕ) → IsCell congruence words state column next → IsCell congruence (words ++ more) state column next
cell_kept congruence words more state column next cell =
    let at_state : word_at (words ++ more) state ≡ word_at words state = word_at-append words more state cell.from in
    let at_next : word_at (words ++ more) next ≡ word_at words next = word_at-append words more next cell.within in
    record {
      from = omega (arith, cell.from, length-append words more);
      within = omega (arith, cell.within, length-append words more);
      leads = rw (at_state, at_next) cell.leads;
      no_later = rw (at_state, at_next) cell.no_later;
    }

-- ---- a state is reached

module _ {S : Type 0} (congruence : Congruence) (leads : List ℕ → S → Type 0) (eq : S → S → Bool)
    (tells : (u v : List ℕ) (s t : S) → leads u s → leads v t → (eq s t ≡ true) ↔ congruence.same u v)
    (words : List (List ℕ)) (states : List S) (found : AreFound congruence leads words states) where
  -- the word of a found state leads to it
  pub led_at : (i : ℕ) (s : S) → Some s ≡ slice_get states i → leads (word_at words i) s
  led_at i s e = subst (leads (word_at words i)) (get_is states i s s (sym e)) (zip_at leads words states i [] s found.led (get_within states i s (sym e)))

  -- a state that equals none of the found ones is another
  not_same : (word : List ℕ) (s : S) → leads word s → list_any (eq s) states ≡ false → (i : ℕ) → i < length words → ¬ (congruence.same (word_at words i) word)
  not_same word s led none i h alike =
      let within : i < length states = subst (λ n. i < n) (length-zip leads words states found.led) h in
      let there : leads (word_at words i) (slice_index_or states i s) = zip_at leads words states i [] s found.led within in
      let equal : eq s (slice_index_or states i s) ≡ true = (tells word (word_at words i) s (slice_index_or states i s) led there).1 (congruence.symmetric (word_at words i) word alike) in
      absurd (true≢false (sym (list_any_at (eq s) states i s within equal) ∙ none))

  one_more : (word : List ℕ) (s : S) → IsWord congruence.width word → leads word s → list_any (eq s) states ≡ false → All (λ w. IsBefore w word) words
      → AreFound congruence leads (words ++ word ∷ []) (states ++ s ∷ [])
  one_more word s is_word led none after = record {
    different = record {
      all_words = All-push (IsWord congruence.width) words word found.different.all_words is_word;
      different = all_pairs_push (λ u v. ¬ (congruence.same u v)) words word found.different.different
          (λ k d h alike. not_same word s led none k h (subst (λ w. congruence.same w word) (get_or_default words k d [] h) alike));
    };
    led = zip_push leads words states word s found.led led;
    rising = all_pairs_push IsBefore words word found.rising (λ k d h. after k d h);
    first = (
      omega (arith, found.first.0, length-append words (word ∷ [])),
      word_at-append words (word ∷ []) 0 found.first.0 ∙ found.first.1,
    );
  }

  -- the state after a state and a column is the found state that equals it
  pub cell_at : (state column at : ℕ) (s k : S) → state < length words → leads (longer (word_at words state) column) s → slice_get states at ≡ Some k → eq s k ≡ true
      → All (λ w. IsUpTo w (longer (word_at words state) column)) words → IsCell congruence words state column at
  cell_at state column at s k from led there equal up_to =
      let within : at < length words = subst (λ n. at < n) (sym (length-zip leads words states found.led)) (get_within states at k there) in
      record {
        from = from;
        within = within;
        leads = (tells (longer (word_at words state) column) (word_at words at) s k led (led_at at k (sym there))).0 equal;
        no_later = up_to at [] within;
      }

  -- the word of a new state is the last and the greatest
  pub found_new : (state column : ℕ) (s : S) → state < length words → column < congruence.width → leads (longer (word_at words state) column) s → list_any (eq s) states ≡ false
      → AreAfter words state column → AreFound congruence leads (with_longer words state column) (states ++ s ∷ [])
  found_new state column s from in_range led none after =
      one_more (longer (word_at words state) column) s
      (All-push (λ c. c < congruence.width) (word_at words state) column (found.different.all_words state [] from) in_range) led none after

-- ---- the place of a scan

pub up_to_old : (words : List (List ℕ)) (word : List ℕ) → All (λ w. IsBefore w word) words → All (λ w. IsUpTo w word) words
up_to_old words word after k d h = inr (after k d h)

pub up_to_new : (words : List (List ℕ)) (word : List ℕ) → All (λ w. IsBefore w word) words → All (λ w. IsUpTo w word) (words ++ word ∷ [])
up_to_new words word after = All-push (λ w. IsUpTo w word) words word (up_to_old words word after) (inl refl)

-- the words up to the one at which the scan stands come before the next place of the row
pub after_next : (words : List (List ℕ)) (state column : ℕ) → All (λ w. IsUpTo w (longer (word_at words state) column)) words → AreAfter words state (column + 1)
after_next words state column up_to k d h =
    up_to_before (slice_index_or words k d) (longer (word_at words state) column) (longer (word_at words state) (column + 1))
    (up_to k d h) (push_before (word_at words state) column (column + 1) (omega arith))

-- ---- a column is followed from a found state

-- what is known then: the state after it, and what the set does with it
pub record Follows {S : Type 0} (old : Congruence) (led : List ℕ → S → Type 0) (new : Congruence) (leads : List ℕ → S → Type 0) (eq : S → S → Bool)
    (words : List (List ℕ)) (states keys : List S) (number column at : ℕ) (is_new : Bool) (state next : S) : Type 0 where
  pub tells : (u v : List ℕ) (s t : S) → leads u s → leads v t → (eq s t ≡ true) ↔ new.same u v
  pub keeps : Keeps old led new leads
  pub found : AreFound old led words states
  pub after : AreAfter words number column
  pub from : number < length words
  pub in_range : column < old.width
  pub read : Some state ≡ slice_get states number
  pub step : (word : List ℕ) → led word state → leads (longer word column) next
  pub added : is_new ≡ not (list_any (eq next) states)
  pub inserted : keys ≡ cond (list_any (eq next) states) states (states ++ next ∷ [])
  pub stored : (k : S) × (slice_get keys at ≡ Some k) × (eq next k ≡ true)

not_there : (b r : Bool) → r ≡ not b → r ≡ true → b ≡ false
not_there true r e t = absurd (true≢false (sym t ∙ e))
not_there false r e t = refl

is_there : (b r : Bool) → r ≡ not b → r ≡ false → b ≡ true
is_there true r e t = refl
is_there false r e t = absurd (true≢false (sym e ∙ t))

module _ {S : Type 0} {old : Congruence} {led : List ℕ → S → Type 0} {new : Congruence} {leads : List ℕ → S → Type 0} {eq : S → S → Bool}
    {words : List (List ℕ)} {states keys : List S} {number column at : ℕ} {is_new : Bool} {state next : S}
    (f : Follows old led new leads eq words states keys number column at is_new state next) where
  found_before : AreFound new leads words states
  found_before = found_kept old new led leads words states f.keeps f.found

  led_after : leads (longer (word_at words number) column) next
  led_after = f.step (word_at words number) (led_before number state f.read)
    where
      led_before : (i : ℕ) (s : S) → Some s ≡ slice_get states i → led (word_at words i) s
      led_before i s e = subst (led (word_at words i)) (get_is states i s s (sym e)) (zip_at led words states i [] s f.found.led (get_within states i s (sym e)))

  found_if_new : is_new ≡ true → AreFound new leads (with_longer words number column) keys
  found_if_new t =
      let none : list_any (eq next) states ≡ false = not_there (list_any (eq next) states) is_new f.added t in
      let is : keys ≡ states ++ next ∷ [] = f.inserted ∙ ap (λ b. cond b states (states ++ next ∷ [])) none in
      subst (AreFound new leads (with_longer words number column)) (sym is)
      (found_new new leads eq f.tells words states found_before number column next f.from (subst (λ w. column < w) (sym f.keeps.columns) f.in_range) led_after none f.after)

  found_if_old : is_new ≡ false → AreFound new leads words keys
  found_if_old t =
      let there : list_any (eq next) states ≡ true = is_there (list_any (eq next) states) is_new f.added t in
      let is : keys ≡ states = f.inserted ∙ ap (λ b. cond b states (states ++ next ∷ [])) there in
      subst (AreFound new leads words) (sym is) found_before

  pub advances_new : is_new ≡ true → Advances new leads words (with_longer words number column) keys number column at is_new
  advances_new t =
      let word = longer (word_at words number) column in
      let grown = with_longer words number column in
      let same_word : word_at grown number ≡ word_at words number = word_at-append words (word ∷ []) number f.from in
      let up_to : All (λ w. IsUpTo w (longer (word_at grown number) column)) grown = rw same_word (up_to_new words word f.after) in
      record {
        found = found_if_new t;
        after = after_next grown number column up_to;
        cell = cell_at new leads eq f.tells grown keys (found_if_new t) number column at next f.stored.0
            (omega (arith, f.from, length-append words (word ∷ []))) (rw same_word led_after) f.stored.1 f.stored.2 up_to;
        grown = sym (ap (λ b. cond b grown words) t);
      }

  pub advances_old : is_new ≡ false → Advances new leads words words keys number column at is_new
  advances_old t =
      let up_to = up_to_old words (longer (word_at words number) column) f.after in
      record {
        found = found_if_old t;
        after = after_next words number column up_to;
        cell = cell_at new leads eq f.tells words keys (found_if_old t) number column at next f.stored.0 f.from led_after f.stored.1 f.stored.2 up_to;
        grown = sym (ap (λ b. cond b (with_longer words number column) words) t);
      }

-- the words are the old ones, or these with one more
pub grown_by : {S : Type 0} {congruence : Congruence} {leads : List ℕ → S → Type 0} {before words : List (List ℕ)} {states : List S} {state column next : ℕ} {is_new : Bool}
    → Advances congruence leads before words states state column next is_new → (more : List (List ℕ)) × (words ≡ before ++ more)
grown_by {before} {words} {state} {column} {is_new} a = by is_new a.grown
  where
    by : (b : Bool) → words ≡ cond b (with_longer before state column) before → (more : List (List ℕ)) × (words ≡ before ++ more)
    by true e = (longer (word_at before state) column ∷ [], e)
    by false e = ([], e ∙ sym (append-nil before))
