-- The calls that a seat made, one after another, and what logs have of them.
use Rattle.std.specs.Prelude.{◌≡◌, ◌<◌, ◌≤◌, ℕ, suc, ◌==◌, List, [], ◌∷◌, ◌++◌}
use Rattle.std.specs.Prelude.{if◌then◌else◌}
use Rattle.tac_hall.specs.declared.call.Call.{Call}
use Rattle.tac_hall.specs.declared.call.CallAnswer.{CallAnswer}
use Rattle.tac_hall.specs.declared.receipt.Receipt.{Receipt}
use Rattle.tac_hall.specs.Calls.{Entry}

-- a call that was made: the number of its segment, its place in the log of that, both counted from
-- 0, and its answer
pub record Made : Type 0 where
  pub segment : ℕ
  pub place : ℕ
  pub call : Call
  pub answer : CallAnswer

abbrev pub made_of : Call → Receipt → Made
made_of call receipt = record {
  segment = receipt.segment;
  place = receipt.place;
  call = call;
  answer = receipt.answer;
}

-- ---- in order

-- the call is of an earlier segment than this one, or of this one and below this place
abbrev pub IsBelow : ℕ → ℕ → Made → Type 0
IsBelow segment place made =
    (made.segment ≤ segment) × (made.segment ≡ segment → made.place < place)

abbrev pub AreBelow : ℕ → ℕ → List Made → Type 0
AreBelow segment place [] = Unit {0}
AreBelow segment place (made ∷ view) = IsBelow segment place made × AreBelow segment place view

-- the calls are of this segment or of later ones
abbrev pub AreFrom : ℕ → List Made → Type 0
AreFrom segment [] = Unit {0}
AreFrom segment (made ∷ view) = (segment ≤ made.segment) × AreFrom segment view

-- no call is of an earlier segment than one before it
abbrev pub Rises : List Made → Type 0
Rises [] = Unit {0}
Rises (made ∷ view) = AreFrom made.segment view × Rises view

-- ---- what logs have of a seat

-- the calls of the log of this segment that the seat of this number made; the first of the log
-- stands at this place
abbrev pub part_of : ℕ → ℕ → ℕ → List Entry → List Made
part_of segment number place [] = []
part_of segment number place (entry ∷ log) =
    if entry.seat == number
    then record { segment = segment; place = place; call = entry.call; answer = entry.answer }
    ∷ part_of segment number (suc place) log
    else part_of segment number (suc place) log

-- the same of the logs of one segment after another, the first of which has this number
abbrev pub view_along : ℕ → ℕ → List (List Entry) → List Made
view_along segment number [] = []
view_along segment number (log ∷ logs) =
    part_of segment number 0 log ++ view_along (suc segment) number logs
