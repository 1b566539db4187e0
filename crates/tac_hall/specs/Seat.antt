-- A seat of a hall, and what a call adds to the history that it has seen.
use Rattle.std.specs.Prelude.{◌≡◌, ◌<◌, ℕ, List, [], ◌∷◌, ◌++◌, length, false}
use Rattle.std.specs.Prelude.{Option, Some, None}
use Rattle.tac_desk.specs.Meaning.{Meaning}
use Rattle.tac_hall.specs.declared.call.Call.{Call}
use Rattle.tac_hall.specs.declared.receipt.Receipt.{Receipt}
use Rattle.tac_hall.specs.declared.fault.HallFault.{HallFault}
use Rattle.tac_hall.specs.Calls.{Answers, IsOfKind, is_closed, Legal}
use Rattle.tac_hall.specs.History.{last_segment}
use Rattle.tac_hall.specs.View.{made_of, AreBelow}
use Rattle.tac_hall.specs.Segments.{Stretch}
use Rattle.tac_roll.specs.Roll.{RollId, Membership, AreOthers}
use Rattle.tac_hall.specs.declared.event.Event.{Event}
use Rattle.tac_hall.specs.declared.event.Event.TheVariants as events
use Rattle.tac_hall.specs.declared.limits.Rotated.{Rotated}
use Rattle.tac_hall.specs.History.{calls_in, place_of, before_call, view_of, rotations_of}
use Rattle.tac_hall.specs.Room.{Opening, IsLawful, RefusesCall, RefusesRotation}
use Rattle.tac_hall.specs.Segments.{IsPresent}

-- its number, and the history up to the last thing that it did
pub record Seated : Type 0 where
  pub number : ℕ
  pub seen : List (ℕ × Event)

-- it did nothing: all that it has seen is of others
abbrev pub IsFresh : Seated → Type 0
IsFresh seat = AreOthers seat.number seat.seen

-- it is what a member of the history knows
abbrev pub seated_as : Option (Membership Event) → Seated
seated_as (Some member) = record { number = member.number; seen = member.seen }
seated_as None = record { number = 0; seen = [] }

-- it has one, of this history
abbrev pub IsSeatOf : RollId → ℕ → Option (Membership Event) → Type 0
IsSeatOf roll number (Some member) = (member.roll ≡ roll) × (number ≡ member.number)
IsSeatOf roll number None = ⊥

-- ---- a call

-- others did these things, and then this seat made this call, and nothing else: before it the next
-- segment began by itself where that was due. The answer is right after all calls before it, and
-- the call stands after all that the seat made before
pub record IsMade (opening : Opening) (was : Seated) (call : Call)
    (receipt : Receipt) (now : Seated) : Type 0 where
  pub others : List (ℕ × Event)
  pub apart : AreOthers was.number others
  pub before : List (ℕ × Event)
  pub all : before ≡ before_call opening.limits was.number (was.seen ++ others)
  pub seen : now.seen ≡ before ++ (was.number, events.Called call receipt.answer) ∷ []
  pub number : now.number ≡ was.number
  pub seat : receipt.seat ≡ was.number
  pub place : place_of before ≡ record { segment = receipt.segment; entries = receipt.place }
  pub room : receipt.place < opening.limits.calls
  pub above : AreBelow receipt.segment receipt.place (view_of was.number was.seen)
  pub kind : IsOfKind call receipt.answer
  pub goes_on : is_closed (calls_in before) ≡ false
  pub meaning : Meaning
  pub then : Meaning
  pub legal : Legal opening.meaning (calls_in before) meaning
  pub answers : Answers meaning call receipt.answer then
  pub view : view_of was.number now.seen
      ≡ view_of was.number was.seen ++ made_of call receipt ∷ []
  pub rotations : rotations_of was.number now.seen ≡ rotations_of was.number was.seen

-- others did these things meanwhile, and the seat has seen them; it did nothing itself
pub record CatchesUp (was now : Seated) : Type 0 where
  pub others : List (ℕ × Event)
  pub apart : AreOthers was.number others
  pub number : now.number ≡ was.number
  pub seen : now.seen ≡ was.seen ++ others
  pub view : view_of was.number now.seen ≡ view_of was.number was.seen
  pub rotations : rotations_of was.number now.seen ≡ rotations_of was.number was.seen

-- after what the seat has seen, which is a lawful history, this call is refused so
pub record IsRefused (opening : Opening) (seat : Seated) (call : Call) (fault : HallFault) : Type 0
  where
    pub meaning : Meaning
    pub lawful : IsLawful opening seat.seen meaning
    pub refuses : RefusesCall opening.limits seat.seen call fault

-- ---- a rotation

-- others did these things, and then this seat ended the segment that is told, and nothing else: it
-- is the present one of all that happened before, with its number, its base, its calls and its end
pub record IsRotated (opening : Opening) (was : Seated) (rotated : Rotated) (now : Seated) : Type 0
  where
    pub others : List (ℕ × Event)
    pub apart : AreOthers was.number others
    pub seen : now.seen ≡ (was.seen ++ others) ++ (was.number, events.Rotated) ∷ []
    pub number : now.number ≡ was.number
    pub goes_on : is_closed (calls_in (was.seen ++ others)) ≡ false
    pub place : place_of (was.seen ++ others)
        ≡ record { segment = rotated.number; entries = rotated.entries }
    pub segment : Stretch
    pub present : IsPresent opening.meaning (was.seen ++ others) segment
    pub told : rotated ≡ record { number = segment.number; entries = length segment.log }
    pub numbered : rotated.number < last_segment
    pub view : view_of was.number now.seen ≡ view_of was.number was.seen
    pub rotations : rotations_of was.number now.seen
        ≡ rotations_of was.number was.seen ++ rotated ∷ []

-- after what the seat has seen, which is a lawful history, a rotation is refused so
pub record IsUnrotated (opening : Opening) (seat : Seated) (fault : HallFault) : Type 0 where
  pub meaning : Meaning
  pub lawful : IsLawful opening seat.seen meaning
  pub refuses : RefusesRotation seat.seen fault
