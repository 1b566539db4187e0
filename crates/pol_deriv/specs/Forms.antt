-- The code's linear forms.
use Rattle.std.specs.Prelude.{◌≡◌, ◌↔◌, ◌+◌, ◌<◌, ℕ, Some, List, ◌++◌, map, filter, slice_get, Contains}
use Rattle.std.specs.List.{AllZip}
use Rattle.std.specs.List.Sorted.{IsStrictlyIncreasing}
use Rattle.pol_pattern.specs.Flat.{Class, holds_symbol, Term}
use Rattle.pol_deriv.specs.Table.{Means}
use Rattle.pol_deriv.specs.declared.linear.Monomial.{Monomial}

-- each monomial is the pair of its class and the term of its number
abbrev pub IsForm : List Term → List Monomial → List (Class × Term) → Type 0
IsForm table monomials pairs =
    AllZip (λ monomial pair. (monomial.class ≡ pair.0)
    × Means table monomial.next pair.1) monomials pairs

-- the form is an earlier one, and then the monomials of the pairs
abbrev pub HasAdded : List Term → List Monomial → List Monomial → List (Class × Term) → Type 0
HasAdded table earlier form pairs =
    (added : List Monomial) × (form ≡ earlier ++ added) × IsForm table added pairs

-- the numbers to which the symbol leads
abbrev pub reached : ℕ → List Monomial → List ℕ
reached symbol form =
    map (λ monomial. monomial.next) (filter (λ monomial. holds_symbol monomial.class symbol) form)

-- from this place on stand, for one symbol after another, the numbers to which it leads, in order
abbrev pub IsRowOf : List Monomial → List (List ℕ) → ℕ → ℕ → Type 0
IsRowOf form lists place count =
    (column : ℕ) → column < count
    → (list : List ℕ) × (slice_get lists (place + column) ≡ Some list) × IsStrictlyIncreasing list
    × ((number : ℕ) → Contains list number ↔ Contains (reached (0x20 + column) form) number)
