-- What is known of a log that threads append to.
use Rattle.std.specs.Prelude.{ℕ, List, Bool, true, false, Option, Some, None}

-- whether it keeps lines, and that it took these bytes by one append
pub record Keeping : Type 1 where
  pub is_kept : Bool
  pub took : List ℕ → Type 0

-- it keeps none
abbrev pub nowhere : Keeping
nowhere = record { is_kept = false; took = λ lines. Unit {0} }

-- it keeps lines. That it took some says nothing of a file, which is in no contract
abbrev pub somewhere : Keeping
somewhere = record { is_kept = true; took = λ lines. Unit {0} }

-- what is known of a log that may be none
abbrev pub keeping_of : {L : Type 0} → (L → Keeping) → Option L → Keeping
keeping_of keeping (Some log) = keeping log
keeping_of keeping None = nowhere
