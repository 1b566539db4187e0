-- Which terms lists of numbers have, in tables that grow.
use Rattle.std.proofs.Common.{◌≡◌, ◌<◌, ◌+◌, ◌↔◌, ◌⊎◌, inl, inr, ℕ, zero, suc, List, [], ◌∷◌, ◌++◌}
use Rattle.std.proofs.Common.{Contains, length}
use Rattle.std.proofs.Common.{get_or, take, map, refl, sym, subst, ap, ◌∙◌, arith}
use Rattle.std.proofs.lemmas.List.{take_more, get_or_default, get_or-map, length-map}
use Rattle.std.proofs.lemmas.List.Elements.{All-append, All-map, All-contains, Contains-append_left}
use Rattle.std.proofs.lemmas.List.Elements.{Contains-append_right, Contains-append_cases}
use Rattle.std.proofs.lemmas.List.Elements.{Contains-push}
use Rattle.std.proofs.lemmas.List.Elements.{Contains-push_cases}
use Rattle.pol_pattern.specs.Flat.{Term}
use Rattle.pol_residual.specs.Derivative.{Derivative, Derivatives}
use Rattle.pol_deriv.specs.Table.{Means, Keeps, Grows, IsSetOf}
use Rattle.pol_automaton.specs.declared.entry_term.EntryTerm.{EntryTerm}
use Rattle.pol_automaton.specs.Scanning.{item_of, HasTerm}
use Rattle.pol_automaton.specs.Stepping.{AreWithin, AreDerivatives, AddsDerivatives}

-- ---- numbers

pub meant : (table : List Term) (number : ℕ) → number < length table → (term : Term)
    × Means table number term
meant [] number h = absurd (omega arith)
meant (term ∷ table) zero h = (term, refl)
meant (term ∷ table) (suc number) h = meant table number (omega arith)

pub means_within : (table : List Term) (number : ℕ) (term : Term) → Means table number term
    → number < length table
means_within [] number term e = absurd cc
means_within (own ∷ table) zero term e = omega arith
means_within (own ∷ table) (suc number) term e = omega (arith, means_within table number term e)

pub means_one : (table : List Term) (number : ℕ) (a b : Term) → Means table number a
    → Means table number b → a ≡ b
means_one table number a b p q = cc

pub grows_by : (a b c : List Term) → Grows a b → Grows b c → Grows a c
grows_by a b c p q = record { kept = λ n t m. q.kept n t (p.kept n t m); distinct = q.distinct }

pub within_more : (old new : List Term) (number : ℕ) → Keeps old new → number < length old
    → number < length new
within_more old new number keeps h =
    let w = meant old number h in means_within new number w.0 (keeps number w.0 w.1)

-- ---- which terms a list has

pub has_kept : (old new : List Term) (items : List EntryTerm) → Keeps old new
    → (entry : ℕ) (term : Term)
    → HasTerm old items entry term → HasTerm new items entry term
has_kept old new items keeps entry term h = (h.0, h.1, keeps h.0 term h.2)

pub has_back : (old new : List Term) (items : List EntryTerm) → Keeps old new → AreWithin old items
    → (entry : ℕ) (term : Term) → HasTerm new items entry term → HasTerm old items entry term
has_back old new items keeps within entry term h =
    let w = meant old h.0
    (All-contains (λ (item : EntryTerm). item.term < length old) items
    (item_of entry h.0) within h.1) in
    (h.0, h.1, subst (Means old h.0) (means_one new h.0 w.0 term (keeps h.0 w.0 w.1) h.2) w.1)

pub has_members : (table : List Term) (a b : List EntryTerm) → ((x : EntryTerm) → Contains b x
    ↔ Contains a x)
    → (entry : ℕ) (term : Term) → HasTerm table b entry term ↔ HasTerm table a entry term
has_members table a b same entry term = (
  λ h. (h.0, (same (item_of entry h.0)).0 h.1, h.2),
  λ h. (h.0, (same (item_of entry h.0)).1 h.1, h.2),
)

pub within_members : (table : List Term) (a b : List EntryTerm) → ((x : EntryTerm)
    → Contains b x ↔ Contains a x)
    → AreWithin table a → AreWithin table b
within_members table a b same within = λ k d lt.
    All-contains (λ (item : EntryTerm). item.term < length table) a (get_or b k d) within
    ((same (get_or b k d)).0 (k, lt, own k d lt))
  where
    own : (k : ℕ) (d : EntryTerm) → k < length b → get_or b k (get_or b k d) ≡ get_or b k d
    own k d lt = get_or_default b k (get_or b k d) d lt

pub within_kept : (old new : List Term) (items : List EntryTerm) → Keeps old new
    → AreWithin old items
    → AreWithin new items
within_kept old new items keeps within =
    λ k d lt. within_more old new (get_or items k d).term keeps (within k d lt)

-- ---- numbers with their entry

mapped_has : (entry : ℕ) (numbers : List ℕ) (number : ℕ) → Contains numbers number
    → Contains (map (item_of entry) numbers) (item_of entry number)
mapped_has entry numbers number c = (
  c.0,
  omega (arith, c.1, length-map numbers (item_of entry)),
  get_or-map (item_of entry) numbers c.0 number (item_of entry number) c.1 ∙ ap (item_of entry) c.2,
)

mapped_from : (entry : ℕ) (numbers : List ℕ) (other number : ℕ)
    → Contains (map (item_of entry) numbers) (item_of other number) → (other ≡ entry)
    × Contains numbers number
mapped_from entry numbers other number c =
    let lt : c.0 < length numbers = omega (arith, c.1, length-map numbers (item_of entry)) in
    let same : item_of entry (get_or numbers c.0 number) ≡ item_of other number =
    sym (get_or-map (item_of entry) numbers c.0 number (item_of other number) lt) ∙ c.2 in
    (sym (ap (λ (x : EntryTerm). x.entry) same), (c.0, lt, ap (λ (x : EntryTerm). x.term) same))

-- the numbers of a set of terms, added under an entry
pub adds_set : (old new : List Term) (own : ℕ) (before : List EntryTerm) (numbers : List ℕ)
    (set : Term → Type 0)
    → Grows old new → AreWithin old before → IsSetOf new numbers set
    → (entry : ℕ) (term : Term)
    → HasTerm new (before ++ map (item_of own) numbers) entry term
    ↔ (HasTerm old before entry term ⊎ ((entry ≡ own) × set term))
adds_set old new own before numbers set grows within is entry term = (from, to)
  where
    from : HasTerm new (before ++ map (item_of own) numbers) entry term
        → HasTerm old before entry term ⊎ ((entry ≡ own) × set term)
    from h =
        elim (Contains-append_cases before (map (item_of own) numbers) (item_of entry h.0) h.1) [
          | inl c ↦ inl (has_back old new before grows.kept within entry term (h.0, c, h.2))
          | inr c ↦
              let p = mapped_from own numbers entry h.0 c in
              let w = is.members.sound h.0 p.1 in
              inr (p.0, subst set (means_one new h.0 w.0 term w.1 h.2) w.2)
        ]

    to : HasTerm old before entry term ⊎ ((entry ≡ own) × set term)
        → HasTerm new (before ++ map (item_of own) numbers) entry term
    to (inl h) =
        let k = has_kept old new before grows.kept entry term h in
        (k.0, Contains-append_left before (map (item_of own) numbers) (item_of entry k.0) k.1, k.2)
    to (inr h) =
        let w = is.members.complete term h.1 in
        let there : Contains (map (item_of own) numbers) (item_of entry w.0) =
        subst (λ (e : ℕ). Contains (map (item_of own) numbers) (item_of e w.0)) (sym h.0)
        (mapped_has own numbers w.0 w.1) in (
          w.0,
          Contains-append_right before (map (item_of own) numbers) (item_of entry w.0) there,
          w.2,
        )

pub added_within : (old new : List Term) (own : ℕ) (before : List EntryTerm) (numbers : List ℕ)
    (set : Term → Type 0)
    → Grows old new → AreWithin old before → IsSetOf new numbers set
    → AreWithin new (before ++ map (item_of own) numbers)
added_within old new own before numbers set grows within is =
    All-append (λ (x : EntryTerm). x.term < length new) before (map (item_of own) numbers)
    (within_kept old new before grows.kept within)
    (All-map (λ (x : EntryTerm). x.term < length new) (item_of own) numbers all_within)
  where
    all_within : (k d : ℕ) → k < length numbers → get_or numbers k d < length new
    all_within k d in_range =
        let n = get_or numbers k d in
        let w = is.members.sound n (k, in_range, get_or_default numbers k n d in_range) in
        means_within new n w.0 w.1

pub adds_derivatives : (old new : List Term) (symbol : ℕ) (item : EntryTerm)
    (before : List EntryTerm)
    (numbers : List ℕ) → Grows old new → item.term < length old → AreWithin old before
    → ((own : Term) → Means old item.term own → IsSetOf new numbers (Derivative symbol own))
    → AddsDerivatives old new symbol item before (before ++ map (item_of item.entry) numbers)
adds_derivatives old new symbol item before numbers grows lt within sets =
    let own = meant old item.term lt in
    record {
      within =
          added_within old new item.entry before numbers (Derivative symbol own.0) grows within
          (sets own.0 own.1);
      members = λ other means entry term. adds_set old new item.entry before numbers
          (Derivative symbol other) grows within (sets other means) entry term;
    }

-- ---- the derivatives of one item more

has_more : (table : List Term) (items : List EntryTerm) (i : ℕ) (item : EntryTerm)
    → i < length items
    → item ≡ get_or items i item → (own : Term) → Means table item.term own
    → (entry : ℕ) (term : Term)
    → HasTerm table (take (i + 1) items) entry term
    ↔ (HasTerm table (take i items) entry term ⊎ ((entry ≡ item.entry) × (term ≡ own)))
has_more table items i item lt is own means entry term = (from, to)
  where
    whole : take (i + 1) items ≡ take i items ++ item ∷ []
    whole = take_more items i item lt ∙ ap (λ (x : EntryTerm). take i items ++ x ∷ []) (sym is)

    from : HasTerm table (take (i + 1) items) entry term
        → HasTerm table (take i items) entry term ⊎ ((entry ≡ item.entry) × (term ≡ own))
    from h =
        elim (Contains-push_cases (take i items) item (item_of entry h.0)
        (subst (λ (l : List EntryTerm). Contains l (item_of entry h.0)) whole h.1)) [
          | inl c ↦ inl (h.0, c, h.2)
          | inr e ↦
              let number : item.term ≡ h.0 = ap (λ (x : EntryTerm). x.term) e in
              inr (
                sym (ap (λ (x : EntryTerm). x.entry) e),
                means_one table h.0 term own h.2
                    (subst (λ (n : ℕ). Means table n own) number means),
              )
        ]

    to : HasTerm table (take i items) entry term ⊎ ((entry ≡ item.entry) × (term ≡ own))
        → HasTerm table (take (i + 1) items) entry term
    to (inl h) = (
      h.0,
      subst (λ (l : List EntryTerm). Contains l (item_of entry h.0)) (sym whole)
          (Contains-append_left (take i items) (item ∷ []) (item_of entry h.0) h.1),
      h.2,
    )
    to (inr h) = (
      item.term,
      subst (λ (l : List EntryTerm). Contains l (item_of entry item.term)) (sym whole)
          (subst (λ (e : ℕ). Contains (take i items ++ item ∷ []) (item_of e item.term)) (sym h.0)
          (Contains-push (take i items) item)),
      subst (Means table item.term) (sym h.1) means,
    )

pub derive_more : (old now after : List Term) (symbol : ℕ) (items : List EntryTerm) (i : ℕ)
    (item : EntryTerm)
    (next more : List EntryTerm) → Grows old now → AreWithin old items
    → i < length items → item ≡ get_or items i item
    → AreDerivatives old now symbol (take i items) next
    → AddsDerivatives now after symbol item next more
    → AreDerivatives old after symbol (take (i + 1) items) more
derive_more old now after symbol items i item next more grows within lt is so_far adds = record {
  within = adds.within;
  members = λ entry term. (
    λ h. from entry term ((adds.members own.0 (grows.kept item.term own.0 own.1) entry term).0 h),
    λ w. (adds.members own.0 (grows.kept item.term own.0 own.1) entry term).1 (to entry term w),
  );
}
  where
    own : (term : Term) × Means old item.term term
    own = meant old item.term
        (subst (λ (x : EntryTerm). x.term < length old) (sym is) (within i item lt))

    from : (entry : ℕ) (term : Term)
        → HasTerm now next entry term ⊎ ((entry ≡ item.entry) × Derivative symbol own.0 term)
        → Derivatives symbol (HasTerm old (take (i + 1) items) entry) term
    from entry term (inl h) =
        let w = (so_far.members entry term).0 h in
        (w.0, (has_more old items i item lt is own.0 own.1 entry w.0).1 (inl w.1), w.2)
    from entry term (inr h) =
        (own.0, (has_more old items i item lt is own.0 own.1 entry own.0).1 (inr (h.0, refl)), h.1)

    to : (entry : ℕ) (term : Term) → Derivatives symbol (HasTerm old (take
        (i + 1) items) entry) term
        → HasTerm now next entry term ⊎ ((entry ≡ item.entry) × Derivative symbol own.0 term)
    to entry term w =
        elim ((has_more old items i item lt is own.0 own.1 entry w.0).0 w.1) [
          | inl h ↦ inl ((so_far.members entry term).1 (w.0, h, w.2))
          | inr h ↦ inr (h.0, subst (λ (t : Term). Derivative symbol t term) h.1 w.2)
        ]

-- in order, and over all items
pub derived_in_order : (old new : List Term) (symbol : ℕ)
    (items part next ordered : List EntryTerm) → part ≡ items
    → ((x : EntryTerm) → Contains ordered x ↔ Contains next x)
    → AreDerivatives old new symbol part next → AreDerivatives old new symbol items ordered
derived_in_order old new symbol items part next ordered all same derived = record {
  within = within_members new next ordered same derived.within;
  members = λ entry term.
      let moved = has_members new next ordered same entry term in
      let of_part = derived.members entry term in
      let by_all : (Derivatives symbol (HasTerm old part entry) term
      → Derivatives symbol (HasTerm old items entry) term)
      × (Derivatives symbol (HasTerm old items entry) term
      → Derivatives symbol (HasTerm old part entry) term) = (
        λ w. (w.0, subst (λ (l : List EntryTerm). HasTerm old l entry w.0) all w.1, w.2),
        λ w. (w.0, subst (λ (l : List EntryTerm). HasTerm old l entry w.0) (sym all) w.1, w.2),
      ) in
      (λ h. by_all.0 (of_part.0 (moved.0 h)), λ w. moved.1 (of_part.1 (by_all.1 w)));
}
