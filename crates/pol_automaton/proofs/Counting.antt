-- How many residuals entries have: a count excludes more.
use Rattle.std.proofs.Common.{◌≡◌, ◌⊎◌, ◌<◌, ◌≤◌, ℕ, zero, suc, true, false, IsTrue, List, [], ◌∷◌, length, refl, sym, ap, ◌∙◌, subst, inl, inr, eqb, arith}
use Rattle.std.specs.Prelude.{All, AllPairs, Any}
use Rattle.std.specs.List.{slice_index_or, list_any, AllByRecursion, IsDistinct}
use Rattle.std.proofs.lemmas.Bool.{cases_lt, or_cases, eqb-true, ne_eqb}
use Rattle.std.proofs.lemmas.List.{get_or_past, get_or_default}
use Rattle.std.proofs.lemmas.Map.Keys.{IsDistinct-cons, IsDistinct-from_apart}
use Rattle.std.proofs.lemmas.Map.Steps.{length-le_from_distinct_below}
use Rattle.basics.specs.Symbol.{is_symbol, is_text}
use Rattle.pol_residual.specs.Residuals.{any_text, SameResiduals, IsResidualCount, ExcludesLaw}
use Rattle.pol_automaton.specs.Alike.{AreAlike, IsClassCount}
use Rattle.pol_automaton.proofs.Alikes.{alike_symmetric, alike_transitive}

-- ---- different numbers below a bound

numbers : (ℕ → ℕ) → ℕ → List ℕ
numbers f zero = []
numbers f (suc m) = f m ∷ numbers f m

length-numbers : (f : ℕ → ℕ) (m : ℕ) → length (numbers f m) ≡ m
unfolding numbers
length-numbers f zero = refl
length-numbers f (suc m) = ap suc (length-numbers f m)

numbers_below : (f : ℕ → ℕ) (m n q : ℕ) → ((i : ℕ) → i < m → f i < n) → list_any (eqb q) (numbers f m) ≡ true → q < n
unfolding numbers
numbers_below f zero n q below h = absurd cc
numbers_below f (suc m) n q below h =
    elim (or_cases (eqb q (f m)) (list_any (eqb q) (numbers f m)) h) [
      | inl e ↦ omega (arith, eqb-true q (f m) e, below m (omega arith))
      | inr k ↦ numbers_below f m n q (λ i lt. below i (omega arith)) k
    ]

IsOneToOne : (ℕ → ℕ) → ℕ → Type 0
IsOneToOne f m = (i j : ℕ) → i < m → j < m → f i ≡ f j → i ≡ j

numbers_apart : (f : ℕ → ℕ) (m k : ℕ) → k < m → IsOneToOne f m → (n : ℕ) → n ≤ k → AllByRecursion (λ y. eqb (f k) y ≡ false) (numbers f n)
unfolding numbers IsOneToOne
numbers_apart f m k lt one zero le = tt
numbers_apart f m k lt one (suc n) le = (
  ne_eqb (f k) (f n) (λ e. let same : k ≡ n = one k n lt (omega arith) e in absurd (omega arith)),
  numbers_apart f m k lt one n (omega arith),
)

numbers_distinct : (f : ℕ → ℕ) (m n : ℕ) → n ≤ m → IsOneToOne f m → IsDistinct eqb (numbers f n)
unfolding numbers
numbers_distinct f m zero le one = IsDistinct-from_apart eqb [] (λ i j d lt in_range. absurd (omega arith))
numbers_distinct f m (suc n) le one = IsDistinct-cons eqb (f n) (numbers f n) (numbers_apart f m n (omega arith) one n (omega arith)) (numbers_distinct f m n (omega arith) one)

at_most : (m n : ℕ) (f : ℕ → ℕ) → ((i : ℕ) → i < m → f i < n) → IsOneToOne f m → m ≤ n
at_most m n f below one =
    omega (arith, length-numbers f m, length-le_from_distinct_below (numbers f m) n (numbers_distinct f m m (omega arith) one) (λ q h. numbers_below f m n q below h))

-- ---- of different ones there are no more than of those among which each has the same

module _ {X : Type 0} (Right : X → Type 0) (Same : X → X → Type 0) (symmetric : (x y : X) → Same x y → Same y x)
    (transitive : (x y z : X) → Same x y → Same y z → Same x z) (any : X) (any_right : Right any) where
  module _ (xs ys : List X) (right : All Right xs) (different : AllPairs (λ x y. ¬ (Same x y)) xs)
      (complete : (x : X) → Right x → Any (Same x) ys) where
    at : ℕ → X
    at i = slice_index_or xs i any

    right_at : (i : ℕ) → Right (at i)
    unfolding at
    right_at i = by (cases_lt i (length xs))
      where
        by : (i < length xs) ⊎ (length xs ≤ i) → Right (slice_index_or xs i any)
        by (inl h) = right i any h
        by (inr h) = subst Right (sym (get_or_past xs i any h)) any_right

    number_at : ℕ → ℕ
    number_at i = (complete (at i) (right_at i)).0

    number_below : (i : ℕ) → number_at i < length ys
    unfolding number_at
    number_below i = (complete (at i) (right_at i)).2

    same_as_numbered : (i : ℕ) → Same (at i) (slice_index_or ys (number_at i) any)
    unfolding number_at
    same_as_numbered i =
        let c = complete (at i) (right_at i) in
        subst (Same (at i)) (sym c.3 ∙ get_or_default ys c.0 c.1 any c.2) c.4

    one_place : (i j : ℕ) → i < length xs → j < length xs → number_at i ≡ number_at j → i ≡ j
    unfolding at
    one_place i j p q e = by (cases_lt i j) (cases_lt j i)
      where
        same : (k l : ℕ) → number_at k ≡ number_at l → Same (at k) (at l)
        same k l f =
            transitive (at k) (slice_index_or ys (number_at k) any) (at l) (same_as_numbered k)
            (symmetric (at l) (slice_index_or ys (number_at k) any) (subst (λ (n : ℕ). Same (at l) (slice_index_or ys n any)) (sym f) (same_as_numbered l)))

        by : (i < j) ⊎ (j ≤ i) → (j < i) ⊎ (i ≤ j) → i ≡ j
        by (inl k) r = absurd (different i j any k q (same i j e))
        by (inr k) (inl r) = absurd (different j i any r p (same j i (sym e)))
        by (inr k) (inr r) = omega arith

    pub no_more : length xs ≤ length ys
    unfolding IsOneToOne
    no_more = at_most (length xs) (length ys) number_at (λ i p. number_below i) one_place

-- ---- texts and their residuals

pub same_symmetric : (entries : List (List ℕ)) (t u : List ℕ) → SameResiduals entries t u → SameResiduals entries u t
same_symmetric [] t u same = tt
same_symmetric (source ∷ entries) t u (inl sure) = inl (sure.1, sure.0)
same_symmetric (source ∷ entries) t u (inr same) = inr (λ term. ((same.0 term).1, (same.0 term).0), same_symmetric entries t u same.1)

pub same_transitive : (entries : List (List ℕ)) (t u v : List ℕ) → SameResiduals entries t u → SameResiduals entries u v → SameResiduals entries t v
same_transitive [] t u v p q = tt
same_transitive (source ∷ entries) t u v (inl p) (inl q) = inl (p.0, q.1)
same_transitive (source ∷ entries) t u v (inl p) (inr q) = inl (p.0, (q.0 any_text).0 p.1)
same_transitive (source ∷ entries) t u v (inr p) (inl q) = inl ((p.0 any_text).1 q.0, q.1)
same_transitive (source ∷ entries) t u v (inr p) (inr q) =
    inr (λ term. (λ h. (q.0 term).0 ((p.0 term).0 h), λ h. (p.0 term).1 ((q.0 term).1 h)), same_transitive entries t u v p.1 q.1)

pub excludes : ExcludesLaw
excludes entries count limit has few above =
    let most = no_more (λ (t : List ℕ). IsTrue (is_text t)) (SameResiduals entries) (same_symmetric entries) (same_transitive entries) [] refl
    above.texts has.texts above.different.all_texts above.different.different has.complete in
    omega (arith, most, has.many, above.many)

-- so there is one count
one_up : (entries : List (List ℕ)) (n m : ℕ) → IsResidualCount entries n → IsResidualCount entries m → ¬ (n < m)
one_up entries n m p q h =
    excludes entries n n p (omega arith) (record { texts = q.texts; many = omega (arith, q.many, h); different = q.different })

pub one_count : (entries : List (List ℕ)) (n m : ℕ) → IsResidualCount entries n → IsResidualCount entries m → n ≡ m
one_count entries n m p q = by (cases_lt n m) (cases_lt m n)
  where
    by : (n < m) ⊎ (m ≤ n) → (m < n) ⊎ (n ≤ m) → n ≡ m
    by (inl h) r = absurd (one_up entries n m p q h)
    by (inr h) (inl k) = absurd (one_up entries m n q p k)
    by (inr h) (inr k) = omega arith

-- ---- symbols and their classes

module _ (entries : List (List ℕ)) where
  one_way : (n m : ℕ) → IsClassCount entries n → IsClassCount entries m → n ≤ m
  one_way n m p q =
      let most = no_more (λ (symbol : ℕ). IsTrue (is_symbol symbol)) (AreAlike entries) (alike_symmetric entries) (alike_transitive entries) 32 refl
      p.symbols q.symbols p.all_symbols p.different q.complete in
      omega (arith, most, p.many, q.many)

  pub one_class_count : (n m : ℕ) → IsClassCount entries n → IsClassCount entries m → n ≡ m
  one_class_count n m p q = omega (arith, one_way n m p q, one_way m n q p)
