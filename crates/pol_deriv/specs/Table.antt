-- Terms under numbers: a table is a list of terms, and the number of a term is its place there.
use Rattle.std.specs.Prelude.{◌≡◌, ◌↔◌, ◌<◌, ℕ, Some, List, length, slice_get, Contains}
use Rattle.std.specs.List.Sorted.{IsStrictlyIncreasing}
use Rattle.pol_pattern.specs.Flat.{Term}

-- the number means the term
abbrev pub Means : List Term → ℕ → Term → Type 0
Means table number term = slice_get table number ≡ Some term

-- different numbers mean different terms
abbrev pub IsDistinct : List Term → Type 0
IsDistinct table = (a b : ℕ) (term : Term) → Means table a term → Means table b term → a ≡ b

-- what a number means stays
abbrev pub Keeps : List Term → List Term → Type 0
Keeps old new = (number : ℕ) (term : Term) → Means old number term → Means new number term

-- what a number means stays, and different numbers still mean different terms
pub record Grows (old new : List Term) : Type 0 where
  pub kept : Keeps old new
  pub distinct : IsDistinct new

-- the numbers represent the terms of the set: each means one of them, and each of
-- them is meant by one
pub record StandsFor (table : List Term) (numbers : List ℕ) (set : Term → Type 0) : Type 0 where
  pub sound : (number : ℕ) → Contains numbers number
      → (term : Term) × Means table number term × set term
  pub complete : (term : Term) → set term
      → (number : ℕ) × Contains numbers number × Means table number term

-- the same of numbers in order, each once
pub record IsSetOf (table : List Term) (numbers : List ℕ) (set : Term → Type 0) : Type 0 where
  pub sorted : IsStrictlyIncreasing numbers
  pub members : StandsFor table numbers set

-- a term of a set by its number
abbrev pub HasTerm : List Term → List ℕ → Term → Type 0
HasTerm table numbers term = (number : ℕ) × Contains numbers number × Means table number term

-- all of them are numbers of the table
abbrev pub AreNumbers : List Term → List ℕ → Type 0
AreNumbers table numbers = (number : ℕ) → Contains numbers number → number < length table

-- numbers in order that mean the same terms are the same numbers
abbrev pub SameSetLaw : Type 0
SameSetLaw =
    (table : List Term) (a b : List ℕ) → IsDistinct table → AreNumbers table a → AreNumbers table b
    → IsStrictlyIncreasing a → IsStrictlyIncreasing b
    → ((term : Term) → HasTerm table a term ↔ HasTerm table b term) → a ≡ b
