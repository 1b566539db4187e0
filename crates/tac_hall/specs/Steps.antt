-- What one step does that is made while the lock is held.
use Rattle.std.specs.Prelude.{◌≡◌, ◌<◌, ℕ, suc, [], ◌∷◌, ◌++◌, length, false, Result, Ok, Err}
use Rattle.tac_hall.specs.declared.call.Call.{Call}
use Rattle.tac_hall.specs.declared.receipt.Receipt.{Receipt}
use Rattle.tac_hall.specs.declared.fault.HallFault.{HallFault}
use Rattle.tac_hall.specs.declared.fault.HallFault.TheVariants.{NoSeat}
use Rattle.tac_hall.specs.Calls.{Answers, IsOfKind, is_closed}
use Rattle.tac_hall.specs.History.{last_segment}
use Rattle.tac_hall.specs.Room.{most_seats}
use Rattle.tac_hall.specs.Segments.{Stretch}
use Rattle.tac_hall.specs.declared.event.Event.TheVariants as events
use Rattle.tac_hall.specs.declared.limits.Rotated.{Rotated}
use Rattle.tac_hall.specs.History.{calls_in, place_of, place_for, before_call}
use Rattle.tac_hall.specs.Room.{Standing, Opening, RefusesCall, RefusesRotation}
use Rattle.tac_hall.specs.Seat.{Seated}
use Rattle.tac_hall.specs.Segments.{IsPresent}

-- ---- a seat

-- it has the next number, and has seen all; it is refused where there are as many as there may be
abbrev pub Sits : Standing → Result Seated HallFault → Standing → Type 0
Sits was (Ok seat) now =
    (was.seats < most_seats)
    × (seat ≡ record { number = was.seats; seen = was.history })
    × (now ≡ record was { seats = suc was.seats })
Sits was (Err NoSeat) now = (was.seats ≡ most_seats) × (now ≡ was)
Sits was (Err fault) now = ⊥

-- ---- a call

-- the seat of this number made it after all that had happened, and its answer is right there.
-- Before it the next segment began by itself where that was due. Nothing else has changed but what
-- the desk represents
pub record IsCalled (opening : Opening) (was : Standing) (number : ℕ) (call : Call)
    (receipt : Receipt) (now : Standing) : Type 0 where
  pub goes_on : is_closed (calls_in was.history) ≡ false
  pub place : record { segment = receipt.segment; entries = receipt.place }
      ≡ place_for opening.limits (place_of was.history)
  pub room : receipt.place < opening.limits.calls
  pub seat : receipt.seat ≡ number
  pub kind : IsOfKind call receipt.answer
  pub answers : Answers was.meaning call receipt.answer now.meaning
  pub history : now.history
      ≡ before_call opening.limits number was.history
      ++ (number, events.Called call receipt.answer) ∷ []
  pub seats : now.seats ≡ was.seats

-- a call that is refused changes nothing
abbrev pub Calls : Opening → Standing → ℕ → Call → Result Receipt HallFault → Standing → Type 0
Calls opening was number call (Ok receipt) now = IsCalled opening was number call receipt now
Calls opening was number call (Err fault) now =
    RefusesCall opening.limits was.history call fault × (now ≡ was)

-- ---- a rotation

-- the seat of this number ended the present segment, of which it is told the number and the count
-- of its calls, and nothing else was done. The next one begins without calls, with what the desk
-- represents
pub record IsEnded (opening : Opening) (was : Standing) (number : ℕ) (rotated : Rotated)
    (now : Standing) : Type 0 where
  pub goes_on : is_closed (calls_in was.history) ≡ false
  pub segment : Stretch
  pub present : IsPresent opening.meaning was.history segment
  pub end : segment.end ≡ was.meaning
  pub told : rotated ≡ record { number = segment.number; entries = length segment.log }
  pub numbered : rotated.number < last_segment
  pub left : now ≡ record was { history = was.history ++ (number, events.Rotated) ∷ [] }
  pub next : IsPresent opening.meaning now.history (record {
    number = suc segment.number;
    base = was.meaning;
    log = [];
    end = was.meaning;
  })

-- one that is refused changes nothing
abbrev pub Rotates : Opening → Standing → ℕ → Result Rotated HallFault → Standing → Type 0
Rotates opening was number (Ok rotated) now = IsEnded opening was number rotated now
Rotates opening was number (Err fault) now =
    RefusesRotation was.history fault × (now ≡ was)
