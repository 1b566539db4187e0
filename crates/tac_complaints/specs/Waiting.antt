-- Complaints that wait to be written (docs/REFERENCE.md, "What standard error says").
use Rattle.std.specs.Prelude.{◌≡◌, ◌≢◌, ℕ, suc, ◌==◌, Bool, ◌&&◌, nat_lt, List, [], ◌∷◌}
use Rattle.std.specs.Prelude.{◌++◌, length, ◌^◌, ◌-◌, Option, Some, None, if◌then◌else◌}
use Rattle.tac_complaints.specs.declared.waiting.Told.{Told}
use Rattle.tac_complaints.specs.declared.waiting.Told.TheVariants.{Complaint, LeftOut}

pub record Complaints : Type 0 where
  -- the lines, in the order in which they came
  pub waiting : List (List ℕ)
  pub left_out : ℕ

abbrev pub none : Complaints
none = record { waiting = []; left_out = 0 }

abbrev pub is_empty : Complaints → Bool
is_empty all = length all.waiting == 0 && all.left_out == 0

-- one more, as far as a number of 64 bits counts
abbrev pub one_more : ℕ → ℕ
one_more n = if nat_lt n (2 ^ 64 - 1) then suc n else 2 ^ 64 - 1

-- whether one more may wait: fewer than 64 do, and none was left out that wasn't told yet
abbrev pub has_room : Complaints → Bool
has_room all = all.left_out == 0 && nat_lt (length all.waiting) 64

-- a complaint waits where there is room for it, and memory for its text; else it is left out
abbrev pub added : Option (List ℕ) → Complaints → Complaints
added None all = record all { left_out = one_more all.left_out }
added (Some line) all =
    if has_room all
    then record all { waiting = all.waiting ++ line ∷ [] }
    else record all { left_out = one_more all.left_out }

-- the first that waits is written next; where none waits, how many were left out
abbrev pub Takes : Option Told → Complaints → Complaints → Type 0
Takes None was now = (was ≡ none) × (now ≡ none)
Takes (Some (Complaint line)) was now =
    (was.waiting ≡ line ∷ now.waiting) × (now.left_out ≡ was.left_out)
Takes (Some (LeftOut count)) was now =
    (was ≡ record { waiting = []; left_out = count }) × (count ≢ 0) × (now ≡ none)
