-- What was worked out of terms: the derivatives by each symbol.
use Rattle.std.specs.Prelude.{◌≡◌, ◌+◌, ◌<◌, ℕ, List, Option, None, Some, slice_get, unwrap_or}
use Rattle.pol_pattern.specs.Flat.{Term}
use Rattle.pol_residual.specs.Derivative.{Derivative}
use Rattle.pol_deriv.specs.Table.{Means, IsSetOf}

-- lists of numbers, and of each term where its row of 95 lists begins, if it was worked out
pub record Rows : Type 0 where
  pub places : List (Option ℕ)
  pub lists : List (List ℕ)

abbrev pub place_of : List (Option ℕ) → ℕ → Option ℕ
place_of places number = unwrap_or (slice_get places number) None

-- from this place on stand, for one symbol after another, the derivatives of the term by it
abbrev pub IsRow : List Term → List (List ℕ) → ℕ → Term → Type 0
IsRow table lists place term =
    (column : ℕ) → column < 95 → (list : List ℕ) × (slice_get lists (place + column) ≡ Some list)
    × IsSetOf table list (Derivative (0x20 + column) term)

-- each row that was worked out is that of its term
abbrev pub AreRows : List Term → Rows → Type 0
AreRows table rows =
    (number place : ℕ) → place_of rows.places number ≡ Some place
    → (term : Term) × Means table number term × IsRow table rows.lists place term
