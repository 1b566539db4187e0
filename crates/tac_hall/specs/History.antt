-- The history of a hall: what each of its seats did, one thing after another.
use Rattle.std.specs.Prelude.{◌≡◌, ◌≤◌, ◌-◌, ℕ, suc, ◌==◌, List, [], ◌∷◌, ◌++◌, length}
use Rattle.std.specs.Prelude.{Bool, true, false, ◌&&◌, nat_le, nat_lt, if◌then◌else◌}
use Rattle.std.specs.List.{flat_map}
use Rattle.tac_hall.specs.Calls.{Entry}
use Rattle.tac_hall.specs.View.{Made}
use Rattle.tac_hall.specs.View.{AreBelow, Rises}
use Rattle.tac_hall.specs.View.{view_along}
use Rattle.tac_hall.specs.declared.event.Event.{Event}
use Rattle.tac_hall.specs.declared.event.Event.TheVariants as events
use Rattle.tac_hall.specs.declared.limits.Limits.{Limits}
use Rattle.tac_hall.specs.declared.limits.Rotated.{Rotated}

-- ---- its calls

abbrev pub entry_of : ℕ → Event → List Entry
entry_of seat (events.Called call answer) =
    record { seat = seat; call = call; answer = answer } ∷ []
entry_of seat events.Rotated = []
entry_of seat events.RotatedByItself = []

-- all calls, each with the number of its seat
abbrev pub calls_in : List (ℕ × Event) → List Entry
calls_in history = flat_map (λ event. entry_of event.0 event.1) history

-- ---- places: the history is cut into segments, numbered from 0

-- the number of the present segment, and how many calls its log has
pub record Place : Type 0 where
  pub segment : ℕ
  pub entries : ℕ

abbrev pub beginning : Place
beginning = record { segment = 0; entries = 0 }

abbrev pub next_segment : Place → Place
next_segment place = record { segment = suc place.segment; entries = 0 }

abbrev pub next_place : Place → Event → Place
next_place place (events.Called call answer) = record place { entries = suc place.entries }
next_place place events.Rotated = next_segment place
next_place place events.RotatedByItself = next_segment place

abbrev pub place_after : Place → List (ℕ × Event) → Place
place_after place [] = place
place_after place (event ∷ history) = place_after (next_place place event.1) history

-- where the next call stands
abbrev pub place_of : List (ℕ × Event) → Place
place_of history = place_after beginning history

-- ---- its logs: one for each segment

-- the logs from here on, where the present one begins so
abbrev pub logs_with : List Entry → ℕ → Event → (List Entry → List (List Entry))
    → List (List Entry)
logs_with log seat (events.Called call answer) later =
    later (log ++ record { seat = seat; call = call; answer = answer } ∷ [])
logs_with log seat events.Rotated later = log ∷ later []
logs_with log seat events.RotatedByItself later = log ∷ later []

abbrev pub logs_from : List Entry → List (ℕ × Event) → List (List Entry)
logs_from log [] = log ∷ []
logs_from log (event ∷ history) =
    logs_with log event.0 event.1 (λ present. logs_from present history)

abbrev pub logs_of : List (ℕ × Event) → List (List Entry)
logs_of history = logs_from [] history

-- the log of the present segment after one thing more, and the log that ended by it, if one did
abbrev pub log_with : List Entry → ℕ → Event → List Entry
log_with log seat (events.Called call answer) =
    log ++ record { seat = seat; call = call; answer = answer } ∷ []
log_with log seat events.Rotated = []
log_with log seat events.RotatedByItself = []

abbrev pub ended_by : List Entry → Event → List (List Entry)
ended_by log (events.Called call answer) = []
ended_by log events.Rotated = log ∷ []
ended_by log events.RotatedByItself = log ∷ []

-- the log of the present segment, where it began so
abbrev pub log_from : List Entry → List (ℕ × Event) → List Entry
log_from log [] = log
log_from log (event ∷ history) = log_from (log_with log event.0 event.1) history

abbrev pub log_of : List (ℕ × Event) → List Entry
log_of history = log_from [] history

-- the logs of the segments that have ended
abbrev pub ended_from : List Entry → List (ℕ × Event) → List (List Entry)
ended_from log [] = []
ended_from log (event ∷ history) =
    ended_by log event.1 ++ ended_from (log_with log event.0 event.1) history

abbrev pub ended_of : List (ℕ × Event) → List (List Entry)
ended_of history = ended_from [] history

-- no log has more calls than this
abbrev pub AreWithin : ℕ → List (List Entry) → Type 0
AreWithin limit [] = Unit {0}
AreWithin limit (log ∷ logs) = (length log ≤ limit) × AreWithin limit logs

-- all calls of these logs, of one after another
abbrev pub joined : List (List Entry) → List Entry
joined [] = []
joined (log ∷ logs) = log ++ joined logs

-- ---- what one seat did

-- its calls, each with its segment, and its place in the log of that
abbrev pub made_by : ℕ → Place → ℕ → Event → List Made
made_by number place seat (events.Called call answer) =
    if seat == number
    then record {
      segment = place.segment;
      place = place.entries;
      call = call;
      answer = answer;
    } ∷ []
    else []
made_by number place seat events.Rotated = []
made_by number place seat events.RotatedByItself = []

abbrev pub view_from : ℕ → Place → List (ℕ × Event) → List Made
view_from number place [] = []
view_from number place (event ∷ history) =
    made_by number place event.0 event.1
    ++ view_from number (next_place place event.1) history

abbrev pub view_of : ℕ → List (ℕ × Event) → List Made
view_of number history = view_from number beginning history

-- the segments that it ended, each with the count of its calls; not those that ended by themselves
abbrev pub rotated_by : ℕ → Place → ℕ → Event → List Rotated
rotated_by number place seat (events.Called call answer) = []
rotated_by number place seat events.Rotated =
    if seat == number
    then record { number = place.segment; entries = place.entries } ∷ []
    else []
rotated_by number place seat events.RotatedByItself = []

abbrev pub rotations_from : ℕ → Place → List (ℕ × Event) → List Rotated
rotations_from number place [] = []
rotations_from number place (event ∷ history) =
    rotated_by number place event.0 event.1
    ++ rotations_from number (next_place place event.1) history

abbrev pub rotations_of : ℕ → List (ℕ × Event) → List Rotated
rotations_of number history = rotations_from number beginning history

-- the logs have all calls, and of each seat exactly its calls, each at its place; they are those
-- that have ended, and then the present one
abbrev pub LogsLaw : Type 0
LogsLaw =
    (history : List (ℕ × Event))
    → (joined (logs_of history) ≡ calls_in history)
    × ((number : ℕ) → view_along 0 number (logs_of history) ≡ view_of number history)
    × (logs_of history ≡ ended_of history ++ log_of history ∷ [])

-- a seat's calls stand in the order in which it made them, and all before the next place
abbrev pub ViewsLaw : Type 0
ViewsLaw =
    (history : List (ℕ × Event)) (number : ℕ)
    → Rises (view_of number history)
    × AreBelow (place_of history).segment (place_of history).entries (view_of number history)

-- no segment has a greater number
abbrev pub last_segment : ℕ
last_segment = 18446744073709551615

-- ---- where the next segment begins by itself

-- before a call that would be the one of this number in its segment, while numbers are left
abbrev pub is_due : Limits → Place → Bool
is_due limits place =
    nat_le (limits.rotate_at - 1) place.entries && nat_lt place.segment last_segment

-- where the next call stands then
abbrev pub place_for : Limits → Place → Place
place_for limits place = if is_due limits place then next_segment place else place

-- what happens before a call of this seat
abbrev pub turned : Bool → ℕ → List (ℕ × Event)
turned true seat = (seat, events.RotatedByItself) ∷ []
turned false seat = []

abbrev pub before_call : Limits → ℕ → List (ℕ × Event) → List (ℕ × Event)
before_call limits seat history =
    history ++ turned (is_due limits (place_of history)) seat
