-- Nothing that is accepted comes before the place of a search.
use Rattle.std.proofs.Common.{◌≡◌, ◌⊎◌, ◌<◌, ◌≤◌, ◌+◌, ◌↔◌, ℕ, Bool, true, false, cond, List, [], ◌∷◌, ◌++◌, length, refl, sym, ap, ◌∙◌, subst, inl, inr, arith, length-append, append-nil}
use Rattle.std.specs.List.{All, AllPairs}
use Rattle.std.proofs.lemmas.Bool.{cases_lt}
use Rattle.std.proofs.lemmas.List.Elements.{All-nil, All-push, All-weaker}
use Rattle.basics.specs.TextOrder.{IsBefore, IsLeast}
use Rattle.pol_scan.proofs.OrderFacts.{before_irreflexive, before_transitive, before_pushed}
use Rattle.pol_scan.specs.Words.{IsWord, IsWordThat, word_at, longer, with_longer}
use Rattle.pol_scan.specs.Congruence.{Congruence, Keeps}
use Rattle.pol_scan.specs.Discovery.{IsCell, AreFound, AreAfter, Advances, IsEarlier, SeeksAt}
use Rattle.pol_scan.proofs.OrderUp.{up_to_before, up_to_longer}
use Rattle.pol_scan.proofs.WordFacts.{word_at-append, word_at-with_longer, length-with_longer}
use Rattle.pol_scan.proofs.Classes.{one_place}
use Rattle.pol_scan.proofs.Reaching.{Stands, stands_on}
use Rattle.pol_scan.proofs.Finding.{cell_known, cell_kept, grown_by}
use Rattle.pol_scan.proofs.Filling.{after_row}

-- ---- the order of the words is that of their numbers

module _ (words : List (List ℕ)) (rising : AllPairs IsBefore words) where
  index_before : (i j : ℕ) → i < length words → j < length words → IsBefore (word_at words i) (word_at words j) → i < j
  index_before i j p q h = by (cases_lt i j) (cases_lt j i)
    where
      by : (i < j) ⊎ (j ≤ i) → (j < i) ⊎ (i ≤ j) → i < j
      by (inl k) r = k
      by (inr k) (inl r) = absurd (before_irreflexive (word_at words i) (before_transitive (word_at words i) (word_at words j) (word_at words i) h (rising j i [] r p)))
      by (inr k) (inr r) =
          let e : j ≡ i = omega arith in
          absurd (before_irreflexive (word_at words i) (subst (λ n. IsBefore (word_at words i) (word_at words n)) e h))

  index_same : (i j : ℕ) → i < length words → j < length words → word_at words i ≡ word_at words j → i ≡ j
  index_same i j p q e = by (cases_lt i j) (cases_lt j i)
    where
      by : (i < j) ⊎ (j ≤ i) → (j < i) ⊎ (i ≤ j) → i ≡ j
      by (inl k) r = absurd (before_irreflexive (word_at words j) (subst (λ w. IsBefore w (word_at words j)) e (rising i j [] k q)))
      by (inr k) (inl r) = absurd (before_irreflexive (word_at words i) (subst (λ w. IsBefore w (word_at words i)) (sym e) (rising j i [] r p)))
      by (inr k) (inr r) = omega arith

-- ---- what a search knows of words before its place

module _ {S : Type 0} (congruence : Congruence) (leads : List ℕ → S → Type 0) (accepted : List ℕ → Type 0)
    (respects : (u v : List ℕ) → congruence.same u v → accepted u → accepted v)
    (words : List (List ℕ)) (states : List S) (state column : ℕ) (seeks : SeeksAt congruence leads accepted words states state column) where
  Any : List ℕ → ℕ → Type 0
  Any _ _ = Unit {0}

  begins : Stands congruence words Any []
  unfolding Any
  begins = record {
    state = 0;
    within = seeks.found.first.0;
    alike = subst (congruence.same []) (sym seeks.found.first.1) (congruence.reflexive []);
    no_later = inl seeks.found.first.1;
    fits = tt;
  }

  -- no found state represents a word that is accepted
  not_stood_for : (word : List ℕ) → accepted word → ¬ (Stands congruence words Any word)
  not_stood_for word a s = seeks.none s.state [] s.within (respects word (word_at words s.state) s.alike a)

  -- nothing comes before the word of the place
  pub none_before : state < length words → (word : List ℕ) → IsWordThat congruence.width accepted word → ¬ (IsBefore word (longer (word_at words state) column))
  unfolding Any
  none_before from word a earlier = not_stood_for word a.1
      (stands_on congruence words Any (λ u. IsBefore u (longer (word_at words state) column)) front row [] word a.0 earlier begins)
    where
      front : (u rest : List ℕ) → IsBefore (u ++ rest) (longer (word_at words state) column) → IsBefore u (longer (word_at words state) column)
      front u [] h = subst (λ w. IsBefore w (longer (word_at words state) column)) (append-nil u) h
      front u (c ∷ rest) h = before_transitive u (u ++ c ∷ rest) (longer (word_at words state) column) (inl (omega (arith, length-append u (c ∷ rest)))) h

      place : (i c : ℕ) → i < length words → IsBefore (word_at words i) (word_at words state) ⊎ ((word_at words i ≡ word_at words state) × (c < column)) → IsEarlier i c state column
      place i c h (inl b) = inl (index_before words seeks.found.rising i state h from b)
      place i c h (inr e) = inr (index_same words seeks.found.rising i state h from e.0, e.1)

      row : (u : List ℕ) (c : ℕ) (s : Stands congruence words Any u) → c < congruence.width → IsBefore (longer u c) (longer (word_at words state) column)
          → (k : ℕ) × IsCell congruence words s.state c k × Any (longer u c) k
      row u c s in_range h =
          let b = before_pushed (word_at words s.state) (word_at words state) c column
          (up_to_before (longer (word_at words s.state) c) (longer u c) (longer (word_at words state) column) (up_to_longer (word_at words s.state) u c s.no_later) h) in
          let r = seeks.followed s.state c in_range (place s.state c s.within b) in
          (r.0, r.1, tt)

  -- where each row was followed, nothing is accepted
  pub none_at_all : length words ≤ state → (word : List ℕ) → ¬ (IsWordThat congruence.width accepted word)
  unfolding Any
  none_at_all ended word a = not_stood_for word a.1
      (stands_on congruence words Any (λ _. Unit {0}) (λ _ _ _. tt)
      (λ u c s in_range _. let r = seeks.followed s.state c in_range (inl (omega (arith, s.within))) in (r.0, r.1, tt)) [] word a.0 tt begins)

  pub seeks_next_row : state < length words → column ≡ congruence.width → SeeksAt congruence leads accepted words states (state + 1) 0
  seeks_next_row from end = record {
    found = seeks.found;
    after = after_row words state column seeks.found.rising (seeks.after from);
    followed = λ i c in_range earlier. seeks.followed i c in_range (by i c in_range earlier (cases_lt i state));
    none = seeks.none;
  }
    where
      by : (i c : ℕ) → c < congruence.width → IsEarlier i c (state + 1) 0 → (i < state) ⊎ (state ≤ i) → IsEarlier i c state column
      by i c in_range earlier (inl lt) = inl lt
      by i c in_range (inl h) (inr ge) = inr (omega arith, omega arith)
      by i c in_range (inr h) (inr ge) = absurd (omega (arith, h.1))

-- ---- the search goes on

module _ {S : Type 0} (old new : Congruence) (led leads : List ℕ → S → Type 0) (keeps : Keeps old led new leads) (was accepted : List ℕ → Type 0) (stays : (w : List ℕ) → was w ↔ accepted w)
    (before words : List (List ℕ)) (states keys : List S) (state column next : ℕ) (is_new : Bool)
    (seeks : SeeksAt old led was before states state column) (a : Advances new leads before words keys state column next is_new) where
  -- a new state has the word of the place
  new_word : is_new ≡ true → words ≡ with_longer before state column
  new_word t = a.grown ∙ ap (λ b. cond b (with_longer before state column) before) t

  from_before : state < length before → word_at words state ≡ word_at before state
  from_before from = let g = grown_by a in ap (λ w. word_at w state) g.1 ∙ word_at-append before g.0 state from

  pub new_place : is_new ≡ true → state < length before → word_at words next ≡ longer (word_at before state) column
  new_place t from =
      let e = new_word t in
      let last : length before < length words = omega (arith, ap length e, length-with_longer before state column) in
      let there : word_at words (length before) ≡ longer (word_at before state) column = ap (λ w. word_at w (length before)) e ∙ word_at-with_longer before state column in
      let is : length before ≡ next = one_place new words a.found.different.different (length before) next last a.cell.within
      (subst (λ w. new.same w (word_at words next)) (ap (λ w. longer w column) (from_before from) ∙ sym there) a.cell.leads) in
      ap (word_at words) (sym is) ∙ there

  -- if the new state accepts, its word is the least that does
  pub least_new : ((u v : List ℕ) → old.same u v → was u → was v) → is_new ≡ true → state < length before → accepted (word_at words next) → IsLeast (IsWordThat new.width accepted) (word_at words next)
  least_new respects t from yields = (
    (a.found.different.all_words next [] a.cell.within, yields),
    λ word h earlier. none_before old led was respects before states state column seeks from word
        (subst (λ w. IsWord w word) keeps.columns h.0, (stays word).1 h.1)
        (subst (IsBefore word) (new_place t from) earlier),
  )

  -- and if it doesn't, the search stands at the next place
  pub seeks_next : state < length before → (is_new ≡ true → ¬ (accepted (word_at words next))) → SeeksAt new leads accepted words keys state (column + 1)
  seeks_next from not_new = record {
    found = a.found;
    after = λ _. a.after;
    followed = λ i c in_range earlier. followed i c (subst (λ w. c < w) keeps.columns in_range) earlier (cases_lt i state) (cases_lt c column);
    none = none is_new refl;
  }
    where
      still : All (λ w. ¬ (accepted w)) before
      still = All-weaker (λ w. ¬ (was w)) (λ w. ¬ (accepted w)) (λ w h k. h ((stays w).1 k)) before seeks.none

      none : (b : Bool) → is_new ≡ b → All (λ w. ¬ (accepted w)) words
      none true t = subst (All (λ w. ¬ (accepted w))) (sym (new_word t))
          (All-push (λ w. ¬ (accepted w)) before (longer (word_at before state) column) still (λ h. not_new t (subst accepted (sym (new_place t from)) h)))
      none false t = subst (All (λ w. ¬ (accepted w))) (sym (a.grown ∙ ap (λ b. cond b (with_longer before state column) before) t)) still

      kept : (i c : ℕ) → (n : ℕ) × IsCell old before i c n → (n : ℕ) × IsCell new words i c n
      kept i c r =
          let g = grown_by a in
          (r.0, subst (λ w. IsCell new w i c r.0) (sym g.1) (cell_kept new before g.0 i c r.0 (cell_known old new led leads keeps before i c r.0 r.1)))

      followed : (i c : ℕ) → c < old.width → IsEarlier i c state (column + 1) → (i < state) ⊎ (state ≤ i) → (c < column) ⊎ (column ≤ c) → (n : ℕ) × IsCell new words i c n
      followed i c in_range earlier (inl lt) q = kept i c (seeks.followed i c in_range (inl lt))
      followed i c in_range (inl h) (inr ge) q = absurd (omega arith)
      followed i c in_range (inr h) (inr ge) (inl lt) = kept i c (seeks.followed i c in_range (inr (h.0, lt)))
      followed i c in_range (inr h) (inr ge) (inr ge') = (next, subst (λ n. IsCell new words n c next) (sym h.0) (subst (λ n. IsCell new words state n next) (omega (arith, h.1)) a.cell))

-- ---- its beginning

-- no word comes before the empty one
pub nothing_before : (word : List ℕ) → ¬ (IsBefore word [])
nothing_before [] (inl h) = omega arith
nothing_before [] (inr h) = h.1
nothing_before (x ∷ word) (inl h) = omega arith
nothing_before (x ∷ word) (inr h) = h.1

pub least_empty : (congruence : Congruence) (accepted : List ℕ → Type 0) → accepted [] → IsLeast (IsWordThat congruence.width accepted) []
least_empty congruence accepted yields = ((All-nil (λ c. c < congruence.width), yields), λ word _. nothing_before word)

pub seeks_first : {S : Type 0} (congruence : Congruence) (leads : List ℕ → S → Type 0) (accepted : List ℕ → Type 0) (words : List (List ℕ)) (states : List S)
    → AreFound congruence leads words states → AreAfter words 0 0 → words ≡ [] ∷ [] → ¬ (accepted []) → SeeksAt congruence leads accepted words states 0 0
seeks_first congruence leads accepted words states found after e not_first = record {
  found = found;
  after = λ _. after;
  followed = λ i c in_range earlier. absurd (elim earlier [ inl h ↦ omega arith | inr h ↦ omega (arith, h.1) ]);
  none = subst (All (λ w. ¬ (accepted w))) (sym e) (All-push (λ w. ¬ (accepted w)) [] [] (All-nil (λ w. ¬ (accepted w))) not_first);
}

-- ---- what was accepted before is what is accepted now

pub least_before : {S : Type 0} (old new : Congruence) (led leads : List ℕ → S → Type 0) → Keeps old led new leads → (was accepted : List ℕ → Type 0) → ((w : List ℕ) → was w ↔ accepted w)
    → (shown word : List ℕ) → shown ≡ word → IsLeast (IsWordThat new.width accepted) word → IsLeast (IsWordThat old.width was) shown
least_before old new led leads keeps was accepted stays shown word e least =
    subst (IsLeast (IsWordThat old.width was)) (sym e) (
      (subst (λ w. IsWord w word) keeps.columns least.0.0, (stays word).1 least.0.1),
      λ other h. least.1 other (subst (λ w. IsWord w other) (sym keeps.columns) h.0, (stays other).0 h.1),
    )

pub accepted_now : {S : Type 0} (old new : Congruence) (led leads : List ℕ → S → Type 0) → Keeps old led new leads → (was accepted : List ℕ → Type 0) → ((w : List ℕ) → was w ↔ accepted w)
    → (word : List ℕ) → IsWordThat old.width was word → IsWordThat new.width accepted word
accepted_now old new led leads keeps was accepted stays word a = (subst (λ w. IsWord w word) (sym keeps.columns) a.0, (stays word).0 a.1)
