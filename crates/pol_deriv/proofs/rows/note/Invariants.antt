use Rattle.std.proofs.Common.{◌≡◌, ℕ, ◌+◌, ◌-◌, vec_len}
use Rattle.pol_deriv.specs.Rows.{place_of}
use Rattle.pol_deriv.proofs.rows.note.Given as goal

abbrev pub invariant-places : goal.invariant-places
invariant-places l = (n : ℕ) → place_of l.places.items n ≡ place_of l.initial.places.items n

abbrev pub decreases-places : goal.decreases-places
decreases-places l = l.number + 1 - vec_len l.places
