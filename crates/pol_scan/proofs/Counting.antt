-- Different numbers below a bound are no more than the bound.
use Rattle.std.proofs.Common.{◌≡◌, ◌<◌, ◌≤◌, ℕ, zero, suc, true, false, List, [], ◌∷◌, length, refl, ap, inl, inr, eqb, arith}
use Rattle.std.specs.List.{list_any, AllByRecursion, IsDistinct}
use Rattle.std.proofs.lemmas.Bool.{or_cases, eqb-true, ne_eqb}
use Rattle.std.proofs.lemmas.Map.Keys.{IsDistinct-cons, IsDistinct-from_apart}
use Rattle.std.proofs.lemmas.Map.Steps.{length-le_from_distinct_below}

numbers : (ℕ → ℕ) → ℕ → List ℕ
numbers f zero = []
numbers f (suc m) = f m ∷ numbers f m

length-numbers : (f : ℕ → ℕ) (m : ℕ) → length (numbers f m) ≡ m
unfolding numbers
length-numbers f zero = refl
length-numbers f (suc m) = ap suc (length-numbers f m)

numbers_below : (f : ℕ → ℕ) (m n q : ℕ) → ((i : ℕ) → i < m → f i < n) → list_any (eqb q) (numbers f m) ≡ true → q < n
unfolding numbers
numbers_below f zero n q below h = absurd cc
numbers_below f (suc m) n q below h =
    elim (or_cases (eqb q (f m)) (list_any (eqb q) (numbers f m)) h) [
      | inl e ↦ omega (arith, eqb-true q (f m) e, below m (omega arith))
      | inr k ↦ numbers_below f m n q (λ i lt. below i (omega arith)) k
    ]

abbrev pub IsOneToOne : (ℕ → ℕ) → ℕ → Type 0
IsOneToOne f m = (i j : ℕ) → i < m → j < m → f i ≡ f j → i ≡ j

numbers_apart : (f : ℕ → ℕ) (m k : ℕ) → k < m → IsOneToOne f m → (n : ℕ) → n ≤ k → AllByRecursion (λ y. eqb (f k) y ≡ false) (numbers f n)
unfolding numbers
numbers_apart f m k lt one zero le = tt
numbers_apart f m k lt one (suc n) le = (
  ne_eqb (f k) (f n) (λ e. let same : k ≡ n = one k n lt (omega arith) e in absurd (omega arith)),
  numbers_apart f m k lt one n (omega arith),
)

numbers_distinct : (f : ℕ → ℕ) (m n : ℕ) → n ≤ m → IsOneToOne f m → IsDistinct eqb (numbers f n)
unfolding numbers
numbers_distinct f m zero le one = IsDistinct-from_apart eqb [] (λ i j d lt in_range. absurd (omega arith))
numbers_distinct f m (suc n) le one = IsDistinct-cons eqb (f n) (numbers f n) (numbers_apart f m n (omega arith) one n (omega arith)) (numbers_distinct f m n (omega arith) one)

pub at_most : (m n : ℕ) (f : ℕ → ℕ) → ((i : ℕ) → i < m → f i < n) → IsOneToOne f m → m ≤ n
at_most m n f below one =
    omega (arith, length-numbers f m, length-le_from_distinct_below (numbers f m) n (numbers_distinct f m m (omega arith) one) (λ q h. numbers_below f m n q below h))
