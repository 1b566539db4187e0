-- Lists that lie one after another in one list.
use Rattle.std.specs.Prelude.{◌≡◌, ◌≤◌, ℕ, Some, List, length, map, slice_get, slice_range}
use Rattle.pol_deriv.specs.declared.lists.Span.{Span}

abbrev pub lists_of : List ℕ → List Span → List (List ℕ)
lists_of numbers spans = map (λ span. slice_range numbers span.start span.end) spans

-- each lies within the whole
abbrev pub AreWithin : List ℕ → List Span → Type 0
AreWithin numbers spans =
    (k : ℕ) (span : Span) → slice_get spans k ≡ Some span
    → (span.start ≤ span.end) × (span.end ≤ length numbers)
