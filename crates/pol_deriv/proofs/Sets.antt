-- Sets of terms, by their numbers.
use Rattle.std.proofs.Common.{◌≡◌, ◌<◌, ◌⊎◌, ◌↔◌, inl, inr, ℕ, zero, suc, List, [], ◌∷◌, ◌++◌, Contains, Less, refl, sym, subst, arith}
use Rattle.std.specs.Prelude.{slice_index_or}
use Rattle.std.specs.List.Sorted.{IsStrictlySortedBy}
use Rattle.std.specs.Ordering.{nat_cmp}
use Rattle.std.proofs.lemmas.List.Elements.{All-from_recursion, All-contains, Contains-append_left, Contains-append_right, Contains-append_cases}
use Rattle.std.proofs.lemmas.Map.Keys.{sorted_from_strictly_increasing, sorted_head, sorted_tail}
use Rattle.std.proofs.lemmas.Bool.Decides.{nat_tests}
use Rattle.pol_pattern.specs.Flat.{Term}
use Rattle.pol_deriv.specs.Table.{Means, Keeps, StandsFor, IsSetOf, HasTerm, AreNumbers, SameSetLaw}
use Rattle.pol_deriv.specs.Nodes.{term_at}
use Rattle.pol_deriv.proofs.Tables.{at_means, means_within}

-- ---- numbers in order

none_contained : (n : ℕ) → Contains [] n → ⊥
none_contained n c = absurd (omega (arith, c.1))

first_contained : (x : ℕ) (xs : List ℕ) → Contains (x ∷ xs) x
first_contained x xs = (0, omega arith, refl)

later_contained : (x : ℕ) (xs : List ℕ) (n : ℕ) → Contains xs n → Contains (x ∷ xs) n
later_contained x xs n c = Contains-append_right (x ∷ []) xs n c

contained_cases : (x : ℕ) (xs : List ℕ) (n : ℕ) → Contains (x ∷ xs) n → (n ≡ x) ⊎ Contains xs n
contained_cases x xs n c = elim (Contains-append_cases (x ∷ []) xs n c) [ inl p ↦ inl (one p.0 p.1 p.2) | inr q ↦ inr q ]
  where
    one : (k : ℕ) → k < 1 → slice_index_or (x ∷ []) k n ≡ n → n ≡ x
    one zero lt e = sym e
    one (suc k) lt e = absurd (omega arith)

above_first : (x : ℕ) (xs : List ℕ) (n : ℕ) → IsStrictlySortedBy nat_cmp (x ∷ xs) → Contains xs n → x < n
above_first x xs n sorted c =
    let less = All-contains (λ y. nat_cmp x y ≡ Less) xs n (All-from_recursion (λ y. nat_cmp x y ≡ Less) xs (sorted_head nat_cmp x xs sorted)) c in
    grind (arith, nat_tests)

-- sorted lists of the same numbers are the same
same_sorted : (a b : List ℕ) → IsStrictlySortedBy nat_cmp a → IsStrictlySortedBy nat_cmp b → ((n : ℕ) → Contains a n ↔ Contains b n) → a ≡ b
same_sorted [] [] p q same = refl
same_sorted [] (y ∷ b) p q same = absurd (none_contained y ((same y).1 (first_contained y b)))
same_sorted (x ∷ a) [] p q same = absurd (none_contained x ((same x).0 (first_contained x a)))
same_sorted (x ∷ a) (y ∷ b) p q same =
    let first : x ≡ y =
    elim (contained_cases y b x ((same x).0 (first_contained x a))) [
      | inl e ↦ e
      | inr c ↦
          elim (contained_cases x a y ((same y).1 (first_contained y b))) [
            | inl e ↦ sym e
            | inr d ↦ absurd (omega (arith, above_first y b x q c, above_first x a y p d))
          ]
    ] in
    let rest : a ≡ b =
    same_sorted a b (sorted_tail nat_cmp x a p) (sorted_tail nat_cmp y b q)
    (λ n. (
      λ c. elim (contained_cases y b n ((same n).0 (later_contained x a n c))) [
        | inl e ↦ absurd (omega (arith, above_first x a n p c, e, first))
        | inr d ↦ d
      ],
      λ d. elim (contained_cases x a n ((same n).1 (later_contained y b n d))) [
        | inl e ↦ absurd (omega (arith, above_first y b n q d, e, first))
        | inr c ↦ c
      ],
    )) in
    cc

pub same_set_law : SameSetLaw
same_set_law table a b distinct within_a within_b p q same =
    same_sorted a b (sorted_from_strictly_increasing a p) (sorted_from_strictly_increasing b q)
    (λ n. (λ c. over a b n within_a (λ term. (same term).0) c, λ c. over b a n within_b (λ term. (same term).1) c))
  where
    over : (c d : List ℕ) (n : ℕ) → AreNumbers table c → ((term : Term) → HasTerm table c term → HasTerm table d term) → Contains c n → Contains d n
    over c d n within to there =
        let means = at_means table n (within n there) in
        let w = to (term_at table n) (n, there, means) in
        subst (Contains d) (distinct w.0 n (term_at table n) w.2 means) w.1

-- ---- numbers that represent terms

pub stands_none : (table : List Term) → StandsFor table [] (λ term. ⊥)
stands_none table = record { sound = λ n c. absurd (none_contained n c); complete = λ term h. absurd h }

pub stands_same : {table : List Term} {numbers : List ℕ} {A B : Term → Type 0} → ((term : Term) → A term ↔ B term) → StandsFor table numbers A → StandsFor table numbers B
stands_same same stands = record {
  sound = λ n c. let w = stands.sound n c in (w.0, w.1, (same w.0).0 w.2);
  complete = λ term h. stands.complete term ((same term).1 h);
}

pub stands_kept : {old new : List Term} {numbers : List ℕ} {A : Term → Type 0} → Keeps old new → StandsFor old numbers A → StandsFor new numbers A
stands_kept keeps stands = record {
  sound = λ n c. let w = stands.sound n c in (w.0, keeps n w.0 w.1, w.2);
  complete = λ term h. let w = stands.complete term h in (w.0, w.1, keeps w.0 term w.2);
}

pub stands_within : {table : List Term} {numbers : List ℕ} {set : Term → Type 0} → StandsFor table numbers set → AreNumbers table numbers
stands_within {table} stands = λ n c. let m = stands.sound n c in means_within table n m.0 m.1

pub stands_moved : {table : List Term} {a b : List ℕ} {A : Term → Type 0} → ((n : ℕ) → Contains b n ↔ Contains a n) → StandsFor table a A → StandsFor table b A
stands_moved moved stands = record {
  sound = λ n c. stands.sound n ((moved n).0 c);
  complete = λ term h. let w = stands.complete term h in (w.0, (moved w.0).1 w.1, w.2);
}

pub stands_append : {table : List Term} {A B : Term → Type 0} (a b : List ℕ) → StandsFor table a A → StandsFor table b B → StandsFor table (a ++ b) (λ term. A term ⊎ B term)
stands_append a b p q = record {
  sound = λ n c. elim (Contains-append_cases a b n c) [
    | inl d ↦ let w = p.sound n d in (w.0, w.1, inl w.2)
    | inr d ↦ let w = q.sound n d in (w.0, w.1, inr w.2)
  ];
  complete = λ term h. elim h [
    | inl x ↦ let w = p.complete term x in (w.0, Contains-append_left a b w.0 w.1, w.2)
    | inr y ↦ let w = q.complete term y in (w.0, Contains-append_right a b w.0 w.1, w.2)
  ];
}

pub stands_one : (table : List Term) (number : ℕ) (own : Term) → Means table number own → StandsFor table (number ∷ []) (λ term. term ≡ own)
stands_one table number own means = record {
  sound = λ n c. (own, subst (λ (k : ℕ). Means table k own) (sym (only n (contained_cases number [] n c))) means, refl);
  complete = λ term e. (number, first_contained number [], subst (Means table number) (sym e) means);
}
  where
    only : (n : ℕ) → (n ≡ number) ⊎ Contains [] n → n ≡ number
    only n (inl e) = e
    only n (inr c) = absurd (none_contained n c)

pub stands_push : {table : List Term} {A : Term → Type 0} (numbers : List ℕ) (number : ℕ) (own : Term) → StandsFor table numbers A → Means table number own
    → StandsFor table (numbers ++ number ∷ []) (λ term. A term ⊎ (term ≡ own))
stands_push {table} numbers number own stands means = stands_append numbers (number ∷ []) stands (stands_one table number own means)

pub set_kept : {old new : List Term} {numbers : List ℕ} {A : Term → Type 0} → Keeps old new → IsSetOf old numbers A → IsSetOf new numbers A
set_kept keeps set = record { sorted = set.sorted; members = stands_kept keeps set.members }
