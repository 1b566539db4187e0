-- What lies under the lock of a hall, and what may be done there.
use Rattle.std.specs.Prelude.{◌≡◌, ◌≤◌, ◌<◌, ℕ, List, [], Bool, true, false, Result, Ok, Err}
use Rattle.tac_desk.specs.Meaning.{Meaning, opening}
use Rattle.tac_hall.specs.declared.call.Call.{Call}
use Rattle.tac_hall.specs.declared.fault.HallFault.{HallFault}
use Rattle.tac_hall.specs.declared.fault.HallFault.TheVariants.{LogFull, Memory, Closed, NoSeat}
use Rattle.tac_hall.specs.Calls.{is_ask, is_closed, Legal}
use Rattle.tac_hall.specs.History.{last_segment}
use Rattle.tac_hall.specs.Segments.{Stretch}
use Rattle.tac_hall.specs.declared.event.Event.{Event}
use Rattle.tac_hall.specs.declared.limits.Limits.{Limits}
use Rattle.tac_hall.specs.declared.room.NextCall.{NextCall}
use Rattle.tac_hall.specs.History.{Place, calls_in, logs_of, AreWithin, place_of, place_for}
use Rattle.tac_hall.specs.History.{is_due}
use Rattle.tac_hall.specs.Segments.{IsPresent}

-- no more seats are made
abbrev pub most_seats : ℕ
most_seats = 64

-- what has happened, how many seats were made, and what the desk represents
pub record Standing : Type 0 where
  pub history : List (ℕ × Event)
  pub seats : ℕ
  pub meaning : Meaning

-- what a desk represented when its history began, and how long the parts of that may be
pub record Opening : Type 0 where
  pub meaning : Meaning
  pub limits : Limits

-- the calls are a legal history from what the desk represented at first to what it represents now,
-- in segments that follow one another, and no log is longer than it may be
pub record IsLawful (opening : Opening) (history : List (ℕ × Event)) (meaning : Meaning) : Type 0
  where
    pub legal : Legal opening.meaning (calls_in history) meaning
    pub within : AreWithin opening.limits.calls (logs_of history)
    pub present : Stretch
    pub segments : IsPresent opening.meaning history present
    pub end : present.end ≡ meaning

-- the same, where the next call stands, and whether there was a Stop
pub record IsCounted (opening : Opening) (history : List (ℕ × Event)) (meaning : Meaning)
    (place : Place) (closed : Bool) : Type 0 where
  pub lawful : IsLawful opening history meaning
  pub stands : place_of history ≡ place
  pub stopped : is_closed (calls_in history) ≡ closed

-- a call is refused after a Stop, else where the log is full in which it would stand, else perhaps
-- because memory ran out for the answer to an ask
abbrev pub RefusesCall : Limits → List (ℕ × Event) → Call → HallFault → Type 0
RefusesCall limits history call Closed = is_closed (calls_in history) ≡ true
RefusesCall limits history call LogFull =
    (is_closed (calls_in history) ≡ false)
    × (limits.calls ≤ (place_for limits (place_of history)).entries)
RefusesCall limits history call Memory =
    (is_closed (calls_in history) ≡ false)
    × ((place_for limits (place_of history)).entries < limits.calls)
    × (is_ask call ≡ true)
RefusesCall limits history call NoSeat = ⊥

-- whether a call may be made, and where it stands then
abbrev pub Judges : Limits → List (ℕ × Event) → Result NextCall HallFault → Type 0
Judges limits history (Ok next) =
    (is_closed (calls_in history) ≡ false)
    × (next.is_due ≡ is_due limits (place_of history))
    × (record { segment = next.segment; entries = next.entries }
    ≡ place_for limits (place_of history))
    × (next.entries < limits.calls)
Judges limits history (Err Closed) = is_closed (calls_in history) ≡ true
Judges limits history (Err LogFull) =
    (is_closed (calls_in history) ≡ false)
    × (limits.calls ≤ (place_for limits (place_of history)).entries)
Judges limits history (Err fault) = ⊥

-- a rotation is refused after a Stop, else where no number is left
abbrev pub RefusesRotation : List (ℕ × Event) → HallFault → Type 0
RefusesRotation history Closed = is_closed (calls_in history) ≡ true
RefusesRotation history LogFull =
    (is_closed (calls_in history) ≡ false) × ((place_of history).segment ≡ last_segment)
RefusesRotation history Memory = ⊥
RefusesRotation history NoSeat = ⊥

-- ---- where no run is picked yet

abbrev pub no_opening : Opening
no_opening = record { meaning = opening [] 0; limits = record { calls = 0; rotate_at = 0 } }
