-- Items of which those after a sure entry are left out, and of itself all but `.*`.
use Rattle.std.proofs.Common.{◌≡◌, ◌<◌, ◌≤◌, ◌⊎◌, ◌||◌, inl, inr, ℕ, Bool, true, false, IsTrue, List, [], ◌∷◌, Contains, filter, nat_lt, length, refl, sym, subst, ap, ◌∙◌, arith, true≢false, Less}
use Rattle.std.proofs.lemmas.Bool.Decides.{nat_tests}
use Rattle.std.specs.Prelude.{◌↔◌, Option, None, Some, IfSome, IfNone, is_some}
use Rattle.std.specs.List.{AllByRecursion}
use Rattle.std.specs.List.Sorted.{IsStrictlySortedBy}
use Rattle.std.proofs.lemmas.Bool.{cases_lt, cond_both}
use Rattle.std.proofs.lemmas.List.Elements.{All-filter, All-contains, All-contains_itself, filter_passes}
use Rattle.pol_pattern.specs.Flat.{Term}
use Rattle.pol_residual.specs.Residuals.{any_text}
use Rattle.pol_deriv.specs.Table.{Means}
use Rattle.pol_automaton.specs.declared.entry_term.EntryTerm.{EntryTerm}
use Rattle.pol_automaton.specs.Scanning.{item_of, order, HasTerm, AreResiduals}
use Rattle.pol_automaton.specs.Cutting.{Counts, IsSureOrNot}
use Rattle.pol_automaton.specs.Stepping.{AreCut, IsFirstSure, is_up_to}
use Rattle.pol_automaton.specs.Order.{same_item, same_is, item_itself, contained_cases, first_contained, later_contained}
use Rattle.pol_automaton.specs.Having.{means_one}

-- ---- what a filter leaves

module _ {X : Type 0} (p : X → Bool) where
  pub left_by : (xs : List X) (x : X) → Contains (filter p xs) x → Contains xs x × (p x ≡ true)
  left_by xs x c = (
    All-contains (Contains xs) (filter p xs) x (All-filter p (Contains xs) xs (All-contains_itself xs)) c,
    All-contains (λ y. p y ≡ true) (filter p xs) x (filter_passes p xs) c,
  )

  pub is_left : (xs : List X) (x : X) → Contains xs x → p x ≡ true → Contains (filter p xs) x
  is_left [] x c h = absurd (omega (arith, c.1))
  is_left (y ∷ xs) x c h =
      elim (contained_cases y xs x c) [
        | inl e ↦
            let own : p y ≡ true = subst (λ z. p z ≡ true) e h in
            cond_both (p y) (y ∷ filter p xs) (filter p xs) (λ l. Contains l x)
            (λ _. subst (Contains (y ∷ filter p xs)) (sym e) (first_contained y (filter p xs))) (λ no. absurd (true≢false (sym own ∙ no)))
        | inr d ↦
            let rest = is_left xs x d h in
            cond_both (p y) (y ∷ filter p xs) (filter p xs) (λ l. Contains l x) (λ _. later_contained y (filter p xs) x rest) (λ _. rest)
      ]

  each_left : (P : X → Type 0) (xs : List X) → AllByRecursion P xs → AllByRecursion P (filter p xs)
  each_left P [] h = h
  each_left P (x ∷ xs) h =
      cond_both (p x) (x ∷ filter p xs) (filter p xs) (AllByRecursion P) (λ _. (h.0, each_left P xs h.1)) (λ _. each_left P xs h.1)

sorted_left : (p : EntryTerm → Bool) (xs : List EntryTerm) → IsStrictlySortedBy order xs → IsStrictlySortedBy order (filter p xs)
unfolding IsStrictlySortedBy
sorted_left p [] h = h
sorted_left p (x ∷ xs) h =
    cond_both (p x) (x ∷ filter p xs) (filter p xs) (IsStrictlySortedBy order)
    (λ _. (each_left p (λ y. order x y ≡ Less) xs h.0, sorted_left p xs h.1)) (λ _. sorted_left p xs h.1)

-- a list of one item at most is in order
pub short_sorted : (xs : List EntryTerm) → length xs < 2 → IsStrictlySortedBy order xs
unfolding IsStrictlySortedBy
short_sorted [] lt = tt
short_sorted (x ∷ []) lt = (tt, tt)
short_sorted (x ∷ y ∷ xs) lt = absurd (omega arith)

-- ---- which items those are

before_or_it : (sure x : EntryTerm) → is_up_to sure x ≡ true → (x.entry < sure.entry) ⊎ (x ≡ sure)
before_or_it sure x h = by (cases_lt x.entry sure.entry)
  where
    by : (x.entry < sure.entry) ⊎ (sure.entry ≤ x.entry) → (x.entry < sure.entry) ⊎ (x ≡ sure)
    by (inl lt) = inl lt
    by (inr le) =
        let no : nat_lt x.entry sure.entry ≡ false = grind (arith, nat_tests) in
        inr (same_is x sure (sym (ap (λ b. b || same_item x sure) no) ∙ h))

is_before : (sure x : EntryTerm) → x.entry < sure.entry → is_up_to sure x ≡ true
is_before sure x lt = let yes : nat_lt x.entry sure.entry ≡ true = grind (arith, nat_tests) in ap (λ b. b || same_item x sure) yes

item_is : (e n : ℕ) (y : EntryTerm) → e ≡ y.entry → n ≡ y.term → same_item (item_of e n) y ≡ true
item_is e n y p q = rw (p, q) (item_itself y)

is_it : (sure : EntryTerm) → is_up_to sure sure ≡ true
is_it sure = by (nat_lt sure.entry sure.entry)
  where
    by : (b : Bool) → (b || same_item sure sure) ≡ true
    by true = refl
    by false = item_itself sure

module _ (table : List Term) (items : List EntryTerm) (right : AreResiduals table items) where
  module _ (sure : EntryTerm) (first : IsFirstSure table items sure) where
    there : HasTerm table items sure.entry any_text
    there = (sure.term, first.there, first.means)

    counts : (entry : ℕ) (term : Term) → HasTerm table (filter (is_up_to sure) items) entry term → Counts (HasTerm table items) entry term
    counts entry term h =
        let x = item_of entry h.0 in
        let w = left_by (is_up_to sure) items x h.1 in
        ((h.0, w.0, h.2), own (before_or_it sure x w.1), λ k below. first.none k (under k below (before_or_it sure x w.1)))
      where
        own : (entry < sure.entry) ⊎ (item_of entry h.0 ≡ sure) → HasTerm table items entry any_text → term ≡ any_text
        own (inl lt) s = absurd (first.none entry lt s)
        own (inr is) s =
            let number : h.0 ≡ sure.term = ap (λ (x : EntryTerm). x.term) is in
            means_one table h.0 term any_text h.2 (subst (λ n. Means table n any_text) (sym number) first.means)

        under : (k : ℕ) → k < entry → (entry < sure.entry) ⊎ (item_of entry h.0 ≡ sure) → k < sure.entry
        under k below (inl lt) = omega arith
        under k below (inr is) = let at : entry ≡ sure.entry = ap (λ (x : EntryTerm). x.entry) is in omega arith

    stays : (entry : ℕ) (term : Term) → Counts (HasTerm table items) entry term → HasTerm table (filter (is_up_to sure) items) entry term
    stays entry term c = (c.0.0, is_left (is_up_to sure) items x c.0.1 (up (cases_lt entry sure.entry) (cases_lt sure.entry entry)), c.0.2)
      where
        x : EntryTerm
        x = item_of entry c.0.0

        up : (entry < sure.entry) ⊎ (sure.entry ≤ entry) → (sure.entry < entry) ⊎ (entry ≤ sure.entry) → is_up_to sure x ≡ true
        up (inl lt) r = is_before sure x lt
        up (inr le) (inl more) = absurd (c.2 sure.entry more there)
        up (inr le) (inr no_more) =
            let at : entry ≡ sure.entry = omega arith in
            let any : term ≡ any_text = c.1 (subst (λ n. HasTerm table items n any_text) (sym at) there) in
            let number : c.0.0 ≡ sure.term = right.distinct c.0.0 sure.term any_text (subst (Means table c.0.0) any c.0.2) first.means in
            let is : x ≡ sure = same_is x sure (item_is entry c.0.0 sure at number) in
            subst (λ y. is_up_to sure y ≡ true) (sym is) (is_it sure)

    decided : (entry : ℕ) → IsSureOrNot (HasTerm table (filter (is_up_to sure) items)) entry
    decided entry = by (cases_lt entry sure.entry) (cases_lt sure.entry entry)
      where
        by : (entry < sure.entry) ⊎ (sure.entry ≤ entry) → (sure.entry < entry) ⊎ (entry ≤ sure.entry) → IsSureOrNot (HasTerm table (filter (is_up_to sure) items)) entry
        by (inl lt) r = inr (λ h. first.none entry lt (counts entry any_text h).0)
        by (inr le) (inl more) = inr (λ h. (counts entry any_text h).2 sure.entry more there)
        by (inr le) (inr no_more) =
            let at : sure.entry ≡ entry = omega arith in
            inl (subst (λ n. HasTerm table (filter (is_up_to sure) items) n any_text) at (sure.term, is_left (is_up_to sure) items sure first.there (is_it sure), first.means))

    pub cut_up_to : AreCut table items (filter (is_up_to sure) items)
    cut_up_to = record { members = λ entry term. (counts entry term, stays entry term); decided = decided }

    pub right_up_to : AreResiduals table (filter (is_up_to sure) items)
    right_up_to = record {
      sorted = sorted_left (is_up_to sure) items right.sorted;
      within = All-filter (is_up_to sure) (λ (item : EntryTerm). item.term < length table) items right.within;
      distinct = right.distinct;
    }

  -- where none is sure all count
  pub cut_nothing : ((entry : ℕ) → ¬ (HasTerm table items entry any_text)) → AreCut table items items
  cut_nothing none = record {
    members = λ entry term. (λ h. (h, λ s. absurd (none entry s), λ k below. none k), λ c. c.0);
    decided = λ entry. inr (none entry);
  }

-- an entry is sure if a first is found
pub is_some_sure : (table : List Term) (items : List EntryTerm) (sure : Option EntryTerm) → IfSome sure (λ item. IsFirstSure table items item)
    → IfNone sure ((entry : ℕ) → ¬ (HasTerm table items entry any_text)) → IsTrue (is_some sure) ↔ ((entry : ℕ) × HasTerm table items entry any_text)
is_some_sure table items None some none = (λ h. absurd cc, λ w. absurd (none w.0 w.1))
is_some_sure table items (Some item) some none = (λ h. (item.entry, (item.term, some.there, some.means)), λ w. refl)
