use Rattle.std.proofs.Common.{◌≡◌, ℕ, ◌≤◌, eqb, ltb}
use Rattle.std.specs.List.{list_any}
use Rattle.tac_tally.proofs.book.Book.all_places.Given as goal

-- the places so far
abbrev pub invariant-places : goal.invariant-places
invariant-places l = ((place : ℕ) → list_any (eqb place) l.places.items ≡ ltb place l.place) × (l.place ≤ l.place-end)
