-- What the fields of a census stand for, and what holds of them.
use Rattle.std.specs.Prelude.{◌≡◌, ◌≤◌, ◌-◌, ℕ, zero, suc, Bool, true, false, List, [], ◌∷◌}
use Rattle.std.specs.Prelude.{length, count_by, Option, Some, None}
use Rattle.std.specs.Str.{bytes_eq}
use Rattle.std.specs.HashMap.{get}
use Rattle.tac_census.specs.declared.census.Census.TheInside.{Inside}
use Rattle.tac_census.specs.Census.{Connections, without_first}

-- ---- who is there

-- who is there once these came (true) and went, in turn, where those were there before
abbrev pub there_after : List (List ℕ) → List (List ℕ × Bool) → List (List ℕ)
there_after there [] = there
there_after there ((segments, true) ∷ later) = there_after (segments ∷ there) later
there_after there ((segments, false) ∷ later) = there_after (without_first segments there) later

abbrev pub connections_of : Inside → Connections
connections_of census =
    record { in_all = census.in_all; present = there_after [] census.history.items }

-- ---- what the table has

-- of an address with so many connections
abbrev pub entry_of : ℕ → Option ℕ
entry_of zero = None
entry_of (suc n) = Some (suc n)

-- how many an entry says
abbrev pub looked_up : Option ℕ → ℕ
looked_up None = 0
looked_up (Some count) = count

-- an entry, once there is one less if it is of this address
abbrev pub one_less : Bool → Option ℕ → Option ℕ
one_less true None = None
one_less true (Some count) = entry_of (count - 1)
one_less false entry = entry

-- ---- what holds

-- the count in all and the entries of the table are those of who is there, and these are no more
-- than may be
pub record AreCounted (in_all all : ℕ) (entry : List ℕ → Option ℕ)
    (there : List (List ℕ)) : Type 0 where
  pub many : all ≡ length there
  pub within : length there ≤ in_all
  pub entries : (segments : List ℕ) → entry segments
      ≡ entry_of (count_by (bytes_eq segments) there)

abbrev pub IsCounted : Inside → Type 0
IsCounted census =
    AreCounted census.in_all census.all (get bytes_eq census.counts)
    (there_after [] census.history.items)
