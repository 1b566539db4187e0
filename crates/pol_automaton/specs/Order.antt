-- Lists of terms in order: what `==` and the order say of two terms, and that ordered lists of the
-- same terms are the same.
use Rattle.std.proofs.Common.{◌≡◌, ◌<◌, ◌↔◌, ◌⊎◌, inl, inr, ℕ, zero, suc, Bool, true, ◌&&◌, ◌==◌}
use Rattle.std.proofs.Common.{List, [], ◌∷◌}
use Rattle.std.proofs.Common.{Contains, Less, refl, sym, ap, ◌∙◌, arith}
use Rattle.std.specs.Prelude.{slice_index_or}
use Rattle.std.specs.Cmp.{IsTotalOrder, IsEquivalence, unsigned_ties, tied_then}
use Rattle.std.specs.Ordering.{eq_by_cmp, ordering_reverse, nat_cmp}
use Rattle.std.specs.declared.cmp.Ordering.{Ordering}
use Rattle.std.specs.List.Sorted.{IsStrictlySortedBy}
use Rattle.std.proofs.lemmas.Bool.{and_parts, and_from, eqb-true, eq-eqb}
use Rattle.std.proofs.lemmas.Cmp.{nat_cmp_total, nat_eq_equiv, on_total, then_total, on_equiv}
use Rattle.std.proofs.lemmas.Cmp.{and_equiv}
use Rattle.std.proofs.lemmas.List.Elements.{All-from_recursion, All-contains, Contains-append_right}
use Rattle.std.proofs.lemmas.List.Elements.{Contains-append_cases}
use Rattle.std.proofs.lemmas.Map.Keys.{sorted_head, sorted_tail}
use Rattle.pol_automaton.specs.declared.entry_term.EntryTerm.{EntryTerm}
use Rattle.pol_automaton.specs.Scanning.{order}

-- ---- the order and `==`

pub order_total : IsTotalOrder order
order_total = then_total (on_total (λ (x : EntryTerm). x.entry) nat_cmp_total)
    (on_total (λ (x : EntryTerm). x.term) nat_cmp_total)

abbrev pub same_item : EntryTerm → EntryTerm → Bool
same_item x y = (x.entry == y.entry) && (x.term == y.term)

both_same : (a b c d : Bool) → a ≡ c → b ≡ d → (a && b) ≡ (c && d)
both_same a b c d p q = cc

pub same_ties : (x y : EntryTerm) → same_item x y ≡ eq_by_cmp order x y
same_ties x y =
    both_same _ _ _ _ (unsigned_ties x.entry y.entry) (unsigned_ties x.term y.term)
    ∙ tied_then (nat_cmp x.entry y.entry) (nat_cmp x.term y.term)

pub same_equiv : IsEquivalence same_item
same_equiv = and_equiv (on_equiv (λ (x : EntryTerm). x.entry) nat_eq_equiv)
    (on_equiv (λ (x : EntryTerm). x.term) nat_eq_equiv)

pub same_is : (x y : EntryTerm) → same_item x y ≡ true → x ≡ y
same_is x y e =
    let p = and_parts (x.entry == y.entry) (x.term == y.term) e in
    let entries : x.entry ≡ y.entry = eqb-true x.entry y.entry p.0 in
    let terms : x.term ≡ y.term = eqb-true x.term y.term p.1 in
    let with_entry : ℕ → EntryTerm = λ n. record { entry = n; term = x.term } in
    let with_term : ℕ → EntryTerm = λ n. record { entry = y.entry; term = n } in
    ap with_entry entries ∙ ap with_term terms

pub item_itself : (x : EntryTerm) → same_item x x ≡ true
item_itself x =
    and_from (x.entry == x.entry) (x.term == x.term) (eq-eqb x.entry x.entry refl)
    (eq-eqb x.term x.term refl)

-- ---- ordered lists of the same elements

none_contained : {A : Type 0} (x : A) → Contains [] x → ⊥
none_contained x c = absurd (omega (arith, c.1))

pub first_contained : {A : Type 0} (x : A) (xs : List A) → Contains (x ∷ xs) x
first_contained x xs = (0, omega arith, refl)

pub later_contained : {A : Type 0} (x : A) (xs : List A) (y : A) → Contains xs y
    → Contains (x ∷ xs) y
later_contained x xs y c = Contains-append_right (x ∷ []) xs y c

pub contained_cases : {A : Type 0} (x : A) (xs : List A) (y : A) → Contains (x ∷ xs) y
    → (y ≡ x) ⊎ Contains xs y
contained_cases {A} x xs y c = by (Contains-append_cases (x ∷ []) xs y c)
  where
    one : (k : ℕ) → k < 1 → slice_index_or (x ∷ []) k y ≡ y → y ≡ x
    one zero lt e = sym e
    one (suc k) lt e = absurd (omega arith)

    by : Contains (x ∷ []) y ⊎ Contains xs y → (y ≡ x) ⊎ Contains xs y
    by (inl p) = inl (one p.0 p.1 p.2)
    by (inr q) = inr q

not_both : {A : Type 0} {R : A → A → Ordering} → IsTotalOrder R → (x y : A) → R x y ≡ Less
    → R y x ≡ Less → ⊥
not_both {R} o x y p q =
    let e : R x y ≡ ordering_reverse (R y x) = o.antisymm x y in let f = rw (p, q) at e in cc

above_first : {A : Type 0} (R : A → A → Ordering) (x : A) (xs : List A) (y : A)
    → IsStrictlySortedBy R (x ∷ xs)
    → Contains xs y → R x y ≡ Less
above_first R x xs y sorted c =
    All-contains (λ z. R x z ≡ Less) xs y
    (All-from_recursion (λ z. R x z ≡ Less) xs (sorted_head R x xs sorted)) c

pub same_sorted : {A : Type 0} {R : A → A → Ordering} → IsTotalOrder R → (a b : List A)
    → IsStrictlySortedBy R a
    → IsStrictlySortedBy R b → ((x : A) → Contains a x ↔ Contains b x) → a ≡ b
same_sorted o [] [] p q same = refl
same_sorted o [] (y ∷ b) p q same = absurd (none_contained y ((same y).1 (first_contained y b)))
same_sorted o (x ∷ a) [] p q same = absurd (none_contained x ((same x).0 (first_contained x a)))
same_sorted {R} o (x ∷ a) (y ∷ b) p q same =
    let first : x ≡ y =
    elim (contained_cases y b x ((same x).0 (first_contained x a))) [
      | inl e ↦ e
      | inr c ↦
          elim (contained_cases x a y ((same y).1 (first_contained y b))) [
            | inl e ↦ sym e
            | inr d ↦ absurd (not_both o x y (above_first R x a y p d) (above_first R y b x q c))
          ]
    ] in
    let rest : a ≡ b =
    same_sorted o a b (sorted_tail R x a p) (sorted_tail R y b q)
    (λ z. (
      λ c. elim (contained_cases y b z ((same z).0 (later_contained x a z c))) [
        | inl e ↦
            let less : R x x ≡ Less = rw (e, ← first) at (above_first R x a z p c) in
            absurd (not_both o x x less less)
        | inr d ↦ d
      ],
      λ d. elim (contained_cases x a z ((same z).1 (later_contained y b z d))) [
        | inl e ↦
            let less : R y y ≡ Less = rw (e, first) at (above_first R y b z q d) in
            absurd (not_both o y y less less)
        | inr c ↦ c
      ],
    )) in
    cc
