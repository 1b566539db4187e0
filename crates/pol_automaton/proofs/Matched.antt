-- The first item, in order, of whose term something holds: so the first entry that accepts, and the
-- first that is sure.
use Rattle.std.proofs.Common.{◌≡◌, ◌<◌, ◌≤◌, ◌+◌, ◌⊎◌, inl, inr, ℕ, List, [], ◌∷◌, ◌++◌, Contains, Less, Greater, length, get_or, take, sym, subst, ap, ◌∙◌, arith, rules}
use Rattle.std.specs.Ordering.{nat_cmp}
use Rattle.std.proofs.lemmas.Bool.{cases_lt}
use Rattle.std.proofs.lemmas.List.{take_more, take_all, get_or-take, get_or_default, length-take}
use Rattle.std.proofs.lemmas.List.Elements.{Contains-push_cases}
use Rattle.std.proofs.lemmas.Map.Keys.{Less-from_sorted}
use Rattle.pol_pattern.specs.Flat.{Term}
use Rattle.pol_deriv.specs.Table.{Means}
use Rattle.pol_automaton.specs.declared.entry_term.EntryTerm.{EntryTerm}
use Rattle.pol_automaton.specs.Scanning.{item_of, order, HasTerm, AreResiduals}
use Rattle.pol_automaton.specs.Having.{meant}

entries_rise : (x y : EntryTerm) → order x y ≡ Less → x.entry ≤ y.entry
entries_rise x y less = by (cases_lt y.entry x.entry)
  where
    by : (y.entry < x.entry) ⊎ (x.entry ≤ y.entry) → x.entry ≤ y.entry
    by (inl lt) =
        let greater : nat_cmp x.entry y.entry ≡ Greater = grind (arith, rules) in
        let now = rw greater at less in
        absurd cc
    by (inr le) = le

module _ (P : Term → Type 0) where
  -- a term of the entry has it
  abbrev pub HasOne : List Term → List EntryTerm → ℕ → Type 0
  HasOne table items entry = (term : Term) × HasTerm table items entry term × P term

  -- no item's term has it
  abbrev pub HasNone : List Term → List EntryTerm → Type 0
  HasNone table items = (x : EntryTerm) → Contains items x → (term : Term) → Means table x.term term → ¬ (P term)

  pub none_more : (table : List Term) (items : List EntryTerm) (i : ℕ) (item : EntryTerm) → i < length items → item ≡ get_or items i item → HasNone table (take i items)
      → ((term : Term) → Means table item.term term → ¬ (P term)) → HasNone table (take (i + 1) items)
  none_more table items i item lt is none now x c term means holds =
      let whole : take (i + 1) items ≡ take i items ++ item ∷ [] = take_more items i item lt ∙ ap (λ (y : EntryTerm). take i items ++ y ∷ []) (sym is) in
      elim (Contains-push_cases (take i items) item x (subst (λ (l : List EntryTerm). Contains l x) whole c)) [
        | inl h ↦ none x h term means holds
        | inr e ↦ now term (subst (λ (y : EntryTerm). Means table y.term term) (sym e) means) holds
      ]

  pub none_of_all : (table : List Term) (items : List EntryTerm) (i : ℕ) → length items ≤ i → HasNone table (take i items) → (entry : ℕ) → ¬ (HasOne table items entry)
  none_of_all table items i le none entry w =
      none (item_of entry w.1.0) (subst (λ (l : List EntryTerm). Contains l (item_of entry w.1.0)) (sym (take_all i items le)) w.1.1) w.0 w.1.2 w.2

  -- an item that has it, with none before it
  pub first_of_items : (table : List Term) (items : List EntryTerm) (i : ℕ) (item : EntryTerm) → AreResiduals table items → i < length items → item ≡ get_or items i item
      → HasNone table (take i items) → ((term : Term) → Means table item.term term → P term) → HasOne table items item.entry × ((k : ℕ) → k < item.entry → ¬ (HasOne table items k))
  first_of_items table items i item right lt is none holds = (here, λ k below w. before k below w (cases_lt w.1.1.0 i))
    where
      here : HasOne table items item.entry
      here =
          let own = meant table item.term (subst (λ (x : EntryTerm). x.term < length table) (sym is) (right.within i item lt)) in
          (own.0, (item.term, (i, lt, sym is), own.1), holds own.0 own.1)

      before : (k : ℕ) → k < item.entry → (w : HasOne table items k) → (w.1.1.0 < i) ⊎ (i ≤ w.1.1.0) → ⊥
      before k below w (inl earlier) =
          let x = item_of k w.1.0 in
          let there : Contains (take i items) x = (w.1.1.0, omega (arith, earlier, lt, length-take i items), get_or-take i items w.1.1.0 x earlier ∙ w.1.1.2) in
          none x there w.0 w.1.2 w.2
      before k below w (inr later) = at (cases_lt i w.1.1.0)
        where
          at : (i < w.1.1.0) ⊎ (w.1.1.0 ≤ i) → ⊥
          at (inl more) =
              let less = Less-from_sorted order items i w.1.1.0 item right.sorted more w.1.1.1 in
              let read : get_or items w.1.1.0 item ≡ item_of k w.1.0 = get_or_default items w.1.1.0 item (item_of k w.1.0) w.1.1.1 ∙ w.1.1.2 in
              let up = entries_rise (get_or items i item) (get_or items w.1.1.0 item) less in
              let a : item.entry ≡ (get_or items i item).entry = ap (λ (y : EntryTerm). y.entry) is in
              let b : (get_or items w.1.1.0 item).entry ≡ k = ap (λ (y : EntryTerm). y.entry) read in
              absurd (omega arith)
          at (inr same) =
              let place : w.1.1.0 ≡ i = omega arith in
              let read : get_or items i item ≡ item_of k w.1.0 =
              subst (λ (n : ℕ). get_or items n item ≡ item_of k w.1.0) place (get_or_default items w.1.1.0 item (item_of k w.1.0) w.1.1.1 ∙ w.1.1.2) in
              let a : item.entry ≡ k = ap (λ (y : EntryTerm). y.entry) (is ∙ read) in
              absurd (omega arith)
