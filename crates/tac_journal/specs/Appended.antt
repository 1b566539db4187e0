-- Lines at the end of a file: what it has once they were to be appended.
use Rattle.std.specs.Prelude.{◌≡◌, ◌<◌, ℕ, zero, suc, List, [], ◌∷◌, length, take, Bool, true}
use Rattle.std.specs.Prelude.{false, nat_lt}
use Rattle.std.specs.Prelude.{Option, Result, Ok, Err}
use Rattle.std.specs.Io.KnownBytes.{Appends}
use Rattle.tac_journal.specs.declared.tail.Untaken.{Untaken}

-- so many bytes of these were taken, all of them or not, once some were to be taken
abbrev pub Takes : ℕ × Result (Unit {0}) Untaken → List ℕ → Option (List ℕ) → Option (List ℕ)
    → Type 0
Takes (taken, Ok _) bytes old new = (taken ≡ length bytes) × Appends old new bytes
Takes (taken, Err _) bytes old new =
    (0 < length bytes → taken < length bytes) × Appends old new (take taken bytes)

-- what is written to append lines: where the last line has no end, its LF comes first
abbrev pub with_end : Bool → List ℕ → List ℕ
with_end false lines = lines
with_end true lines = 10 ∷ lines

-- whether the last line has no end, once only so many bytes of that were taken
abbrev pub is_left_cut : Bool → ℕ → Bool
is_left_cut false taken = nat_lt 0 taken
is_left_cut true zero = true
is_left_cut true (suc taken) = nat_lt 0 taken

-- the last line was ended, if it had no end
abbrev pub Ends : Result (Unit {0}) Untaken → Bool → Bool → Option (List ℕ) → Option (List ℕ)
    → Type 0
Ends (Ok _) was now old new = (now ≡ false) × Appends old new (with_end was [])
Ends (Err _) was now old new = (was ≡ true) × (now ≡ true) × Appends old new []

-- only so many bytes were taken; of the lines some were, if the last line counts as cut off
abbrev pub IsTakenInPart : List ℕ → Bool → Bool → Option (List ℕ) → Option (List ℕ) → Type 0
IsTakenInPart lines was now old new =
    (taken : ℕ) × (now ≡ is_left_cut was taken)
    × (0 < length lines → taken < length (with_end was lines))
    × Appends old new (take taken (with_end was lines))

-- lines were appended whole, after the end of the last; or a part of that
abbrev pub Appended : Result (Unit {0}) Untaken → List ℕ → Bool → Bool → Option (List ℕ)
    → Option (List ℕ) → Type 0
Appended (Ok _) lines was now old new = (now ≡ false) × Appends old new (with_end was lines)
Appended (Err _) lines was now old new = IsTakenInPart lines was now old new
