-- What all seats of a hall did, once each of them has ended.
use Rattle.std.specs.Prelude.{◌≡◌, ℕ, zero, suc, ◌==◌, List, [], ◌∷◌, length, All}
use Rattle.std.specs.Prelude.{Bool, true, false, ◌&&◌, ◌||◌}
use Rattle.tac_desk.specs.Meaning.{Meaning}
use Rattle.tac_hall.specs.Calls.{Legal}
use Rattle.tac_hall.specs.Segments.{Stretch}
use Rattle.tac_roll.specs.Roll.{Knows}
use Rattle.tac_hall.specs.declared.event.Event.{Event}
use Rattle.tac_hall.specs.declared.limits.Rotated.{Rotated}
use Rattle.tac_hall.specs.History.{calls_in, logs_of, AreWithin, view_of, rotations_of}
use Rattle.tac_hall.specs.Room.{Opening}
use Rattle.tac_hall.specs.Seat.{Seated}
use Rattle.tac_hall.specs.Segments.{IsPresent}

-- one of the seats has this number
abbrev pub is_there : ℕ → List Seated → Bool
is_there number [] = false
is_there number (seat ∷ seats) = (seat.number == number) || is_there number seats

-- the seats of all numbers below this one are there
abbrev pub are_there : ℕ → List Seated → Bool
are_there zero seats = true
are_there (suc number) seats = is_there number seats && are_there number seats

-- these are so many seats, each with one of the numbers below that, and so different ones
abbrev pub HasAll : ℕ → List Seated → Type 0
HasAll number seats = (length seats ≡ number) × (are_there number seats ≡ true)

-- what these seats did is one history, whose calls are legal from what the desk represented at
-- first to what it represents at last, in segments that follow one another up to the present one;
-- no log is longer than it may be. Each seat has seen a beginning of it, and did nothing after
-- that: so its calls, each at its place, and the segments that it ended are exactly those that the
-- history has of it. Nothing is of another seat than these, which are different ones: they have the
-- numbers below their count, each once
pub record IsSettled (opening : Opening) (last : Meaning) (seats : List Seated) : Type 0 where
  pub history : List (ℕ × Event)
  pub legal : Legal opening.meaning (calls_in history) last
  pub present : Stretch
  pub segments : IsPresent opening.meaning history present
  pub end : present.end ≡ last
  pub within : AreWithin opening.limits.calls (logs_of history)
  pub know : All (λ seat. Knows history seat.number seat.seen) seats
  pub views : All (λ seat. view_of seat.number history ≡ view_of seat.number seat.seen) seats
  pub rotated : All
      (λ seat. rotations_of seat.number history ≡ rotations_of seat.number seat.seen) seats
  pub theirs : All (λ event. is_there event.0 seats ≡ true) history
  pub there : are_there (length seats) seats ≡ true

-- and the present segment is the one that is told, with so many calls
pub record IsSettledAt (opening : Opening) (told : Rotated) (last : Meaning) (seats : List Seated)
    : Type 0 where
  pub settled : IsSettled opening last seats
  pub present : told
      ≡ record { number = settled.present.number; entries = length settled.present.log }
