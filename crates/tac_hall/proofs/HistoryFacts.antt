-- A history to which something is added.
use Rattle.std.proofs.Common.{◌≡◌, ◌≢◌, ℕ, suc, ◌<◌, List, [], ◌∷◌, ◌++◌, length, length-append, append-nil, append_assoc, Bool, true, false, arith, rules, refl, sym, ap, ◌∙◌, subst}
use Rattle.std.specs.Prelude.{◌==◌, if◌then◌else◌}
use Rattle.std.proofs.lemmas.List.Elements.{All-head, All-tail, All-weaker}
use Rattle.std.proofs.lemmas.Grind.{flat_map-append}
use Rattle.std.proofs.lemmas.Bool.{ne_eqb}
use Rattle.tac_hall.specs.declared.call.Call.{Call}
use Rattle.tac_hall.specs.declared.call.CallAnswer.{CallAnswer}
use Rattle.tac_hall.specs.Calls.{Entry}
use Rattle.tac_hall.specs.View.{Made}
use Rattle.tac_roll.specs.Roll.{AreOthers, AreGiven, Knows}
use Rattle.tac_hall.specs.declared.event.Event.{Event}
use Rattle.tac_hall.specs.declared.event.Event.TheVariants as events
use Rattle.tac_hall.specs.declared.limits.Rotated.{Rotated}
use Rattle.tac_hall.specs.History.{Place, beginning, entry_of, calls_in, next_place, place_after, place_of, logs_from, logs_of, AreWithin}
use Rattle.tac_hall.specs.History.{made_by, view_from, view_of, rotated_by, rotations_from, rotations_of, turned, next_segment, is_due, place_for}
use Rattle.tac_hall.specs.declared.limits.Limits.{Limits}

-- ---- one part after another

pub place_append : (place : Place) (one two : List (ℕ × Event)) → place_after place (one ++ two) ≡ place_after (place_after place one) two
place_append place [] two = refl
place_append place (event ∷ one) two = place_append (next_place place event.1) one two

pub calls_append : (one two : List (ℕ × Event)) → calls_in (one ++ two) ≡ calls_in one ++ calls_in two
calls_append one two = flat_map-append (λ (event : ℕ × Event). entry_of event.0 event.1) one two

pub view_append : (number : ℕ) (place : Place) (one two : List (ℕ × Event)) → view_from number place (one ++ two) ≡ view_from number place one ++ view_from number (place_after place one) two
view_append number place [] two = refl
view_append number place (event ∷ one) two =
    let next : Place = next_place place event.1 in
    let first : List Made = made_by number place event.0 event.1 in
    ap (λ (l : List Made). first ++ l) (view_append number next one two) ∙ sym (append_assoc first (view_from number next one) (view_from number (place_after next one) two))

pub rotations_append : (number : ℕ) (place : Place) (one two : List (ℕ × Event)) → rotations_from number place (one ++ two) ≡ rotations_from number place one ++ rotations_from number (place_after place one) two
rotations_append number place [] two = refl
rotations_append number place (event ∷ one) two =
    let next : Place = next_place place event.1 in
    let first : List Rotated = rotated_by number place event.0 event.1 in
    ap (λ (l : List Rotated). first ++ l) (rotations_append number next one two) ∙ sym (append_assoc first (rotations_from number next one) (rotations_from number (place_after next one) two))

-- ---- what others did

other_made : (number : ℕ) (place : Place) (seat : ℕ) (event : Event) → seat ≢ number → made_by number place seat event ≡ []
other_made number place seat (events.Called call answer) other = let no : (seat == number) ≡ false = ne_eqb seat number other in rw no refl
other_made number place seat events.Rotated other = refl
other_made number place seat events.RotatedByItself other = refl

other_rotated : (number : ℕ) (place : Place) (seat : ℕ) (event : Event) → seat ≢ number → rotated_by number place seat event ≡ []
other_rotated number place seat (events.Called call answer) other = refl
other_rotated number place seat events.Rotated other = let no : (seat == number) ≡ false = ne_eqb seat number other in rw no refl
other_rotated number place seat events.RotatedByItself other = refl

pub view_others : (number : ℕ) (place : Place) (history : List (ℕ × Event)) → AreOthers number history → view_from number place history ≡ []
view_others number place [] others = refl
view_others number place (event ∷ history) others =
    let P : ℕ × Event → Type 0 = λ e. e.0 ≢ number in
    let first : made_by number place event.0 event.1 ≡ [] = other_made number place event.0 event.1 (All-head P event history others) in
    rw first (view_others number (next_place place event.1) history (All-tail P event history others))

pub rotations_others : (number : ℕ) (place : Place) (history : List (ℕ × Event)) → AreOthers number history → rotations_from number place history ≡ []
rotations_others number place [] others = refl
rotations_others number place (event ∷ history) others =
    let P : ℕ × Event → Type 0 = λ e. e.0 ≢ number in
    let first : rotated_by number place event.0 event.1 ≡ [] = other_rotated number place event.0 event.1 (All-head P event history others) in
    rw first (rotations_others number (next_place place event.1) history (All-tail P event history others))

pub view_same : (number : ℕ) (seen others : List (ℕ × Event)) → AreOthers number others → view_of number (seen ++ others) ≡ view_of number seen
view_same number seen others apart =
    view_append number beginning seen others ∙ ap (λ (l : List Made). view_of number seen ++ l) (view_others number (place_of seen) others apart) ∙ append-nil (view_of number seen)

pub rotations_same : (number : ℕ) (seen others : List (ℕ × Event)) → AreOthers number others → rotations_of number (seen ++ others) ≡ rotations_of number seen
rotations_same number seen others apart =
    rotations_append number beginning seen others ∙ ap (λ (l : List Rotated). rotations_of number seen ++ l) (rotations_others number (place_of seen) others apart) ∙ append-nil (rotations_of number seen)

pub view_known : (history : List (ℕ × Event)) (number : ℕ) (seen : List (ℕ × Event)) → Knows history number seen → view_of number history ≡ view_of number seen
view_known history number seen k = ap (view_of number) k.1 ∙ view_same number seen k.0 k.2

pub rotations_known : (history : List (ℕ × Event)) (number : ℕ) (seen : List (ℕ × Event)) → Knows history number seen → rotations_of number history ≡ rotations_of number seen
rotations_known history number seen k = ap (rotations_of number) k.1 ∙ rotations_same number seen k.0 k.2

-- nothing was done yet under the next number
pub none_given : (members : ℕ) (history : List (ℕ × Event)) → AreGiven members history → AreOthers members history
none_given members history given = All-weaker (λ (e : ℕ × Event). e.0 < members) (λ (e : ℕ × Event). e.0 ≢ members) (λ e below same. let b : e.0 < members = below in let s : e.0 ≡ members = same in absurd (omega arith)) history given

-- ---- a segment that begins by itself

turned_calls : (due : Bool) (seat : ℕ) → calls_in (turned due seat) ≡ []
turned_calls true seat = refl
turned_calls false seat = refl

turned_view : (number : ℕ) (place : Place) (due : Bool) (seat : ℕ) → view_from number place (turned due seat) ≡ []
turned_view number place true seat = refl
turned_view number place false seat = refl

turned_rotations : (number : ℕ) (place : Place) (due : Bool) (seat : ℕ) → rotations_from number place (turned due seat) ≡ []
turned_rotations number place true seat = refl
turned_rotations number place false seat = refl

pub calls_ready : (history : List (ℕ × Event)) (due : Bool) (seat : ℕ) → calls_in (history ++ turned due seat) ≡ calls_in history
calls_ready history due seat = calls_append history (turned due seat) ∙ ap (λ (l : List Entry). calls_in history ++ l) (turned_calls due seat) ∙ append-nil (calls_in history)

pub view_ready : (number : ℕ) (history : List (ℕ × Event)) (due : Bool) (seat : ℕ) → view_of number (history ++ turned due seat) ≡ view_of number history
view_ready number history due seat =
    view_append number beginning history (turned due seat) ∙ ap (λ (l : List Made). view_of number history ++ l) (turned_view number (place_of history) due seat) ∙ append-nil (view_of number history)

pub rotations_ready : (number : ℕ) (history : List (ℕ × Event)) (due : Bool) (seat : ℕ) → rotations_of number (history ++ turned due seat) ≡ rotations_of number history
rotations_ready number history due seat =
    rotations_append number beginning history (turned due seat) ∙ ap (λ (l : List Rotated). rotations_of number history ++ l) (turned_rotations number (place_of history) due seat) ∙ append-nil (rotations_of number history)

-- ---- a call

own : (number : ℕ) → (number == number) ≡ true
own number = search rules

pub calls_called : (history : List (ℕ × Event)) (seat : ℕ) (call : Call) (answer : CallAnswer) → calls_in (history ++ (seat, events.Called call answer) ∷ []) ≡ calls_in history ++ record { seat = seat; call = call; answer = answer } ∷ []
calls_called history seat call answer = calls_append history ((seat, events.Called call answer) ∷ [])

pub view_called : (number : ℕ) (history : List (ℕ × Event)) (call : Call) (answer : CallAnswer) → view_of number (history ++ (number, events.Called call answer) ∷ [])
    ≡ view_of number history ++ record { segment = (place_of history).segment; place = (place_of history).entries; call = call; answer = answer } ∷ []
view_called number history call answer =
    let mine : (number == number) ≡ true = own number in
    view_append number beginning history ((number, events.Called call answer) ∷ []) ∙ ap (λ (l : List Made). view_of number history ++ l) (rw mine refl)

pub rotations_called : (number : ℕ) (history : List (ℕ × Event)) (call : Call) (answer : CallAnswer) → rotations_of number (history ++ (number, events.Called call answer) ∷ []) ≡ rotations_of number history
rotations_called number history call answer =
    rotations_append number beginning history ((number, events.Called call answer) ∷ []) ∙ append-nil (rotations_of number history)

-- ---- a rotation

pub calls_rotated : (history : List (ℕ × Event)) (seat : ℕ) → calls_in (history ++ (seat, events.Rotated) ∷ []) ≡ calls_in history
calls_rotated history seat = calls_append history ((seat, events.Rotated) ∷ []) ∙ append-nil (calls_in history)

pub view_rotated : (number : ℕ) (history : List (ℕ × Event)) → view_of number (history ++ (number, events.Rotated) ∷ []) ≡ view_of number history
view_rotated number history = view_append number beginning history ((number, events.Rotated) ∷ []) ∙ append-nil (view_of number history)

pub rotations_rotated : (number : ℕ) (history : List (ℕ × Event)) → rotations_of number (history ++ (number, events.Rotated) ∷ [])
    ≡ rotations_of number history ++ record { number = (place_of history).segment; entries = (place_of history).entries } ∷ []
rotations_rotated number history =
    let mine : (number == number) ≡ true = own number in
    rotations_append number beginning history ((number, events.Rotated) ∷ []) ∙ ap (λ (l : List Rotated). rotations_of number history ++ l) (rw mine refl)

-- ---- how long the logs are

within_called : (limit : ℕ) (log : List Entry) (place : Place) (history : List (ℕ × Event)) (seat : ℕ) (call : Call) (answer : CallAnswer) → place.entries ≡ length log → AreWithin limit (logs_from log history)
    → (place_after place history).entries < limit → AreWithin limit (logs_from log (history ++ (seat, events.Called call answer) ∷ []))
within_called limit log place [] seat call answer same within room =
    let entry : Entry = record { seat = seat; call = call; answer = answer } in
    (omega (arith, length-append log (entry ∷ [])), tt)
within_called limit log place ((by, events.Called asked told) ∷ history) seat call answer same within room =
    let entry : Entry = record { seat = by; call = asked; answer = told } in
    within_called limit (log ++ entry ∷ []) (record place { entries = suc place.entries }) history seat call answer (omega (arith, length-append log (entry ∷ []))) within room
within_called limit log place ((by, events.Rotated) ∷ history) seat call answer same within room =
    (within.0, within_called limit [] (record { segment = suc place.segment; entries = 0 }) history seat call answer refl within.1 room)
within_called limit log place ((by, events.RotatedByItself) ∷ history) seat call answer same within room =
    (within.0, within_called limit [] (record { segment = suc place.segment; entries = 0 }) history seat call answer refl within.1 room)

-- no log is longer after a call for which there was room
pub room_called : (limit : ℕ) (history : List (ℕ × Event)) (seat : ℕ) (call : Call) (answer : CallAnswer) → AreWithin limit (logs_of history) → (place_of history).entries < limit → AreWithin limit (logs_of (history ++ (seat, events.Called call answer) ∷ []))
room_called limit history seat call answer within room = within_called limit [] beginning history seat call answer refl within room

within_ended : (limit : ℕ) (log : List Entry) (history : List (ℕ × Event)) (seat : ℕ) → AreWithin limit (logs_from log history) → AreWithin limit (logs_from log (history ++ (seat, events.Rotated) ∷ []))
within_ended limit log [] seat within = (within.0, (omega arith, tt))
within_ended limit log ((by, events.Called asked told) ∷ history) seat within = within_ended limit (log ++ record { seat = by; call = asked; answer = told } ∷ []) history seat within
within_ended limit log ((by, events.Rotated) ∷ history) seat within = (within.0, within_ended limit [] history seat within.1)
within_ended limit log ((by, events.RotatedByItself) ∷ history) seat within = (within.0, within_ended limit [] history seat within.1)

pub room_rotated : (limit : ℕ) (history : List (ℕ × Event)) (seat : ℕ) → AreWithin limit (logs_of history) → AreWithin limit (logs_of (history ++ (seat, events.Rotated) ∷ []))
room_rotated limit history seat within = within_ended limit [] history seat within

within_turned : (limit : ℕ) (log : List Entry) (history : List (ℕ × Event)) (seat : ℕ) → AreWithin limit (logs_from log history) → AreWithin limit (logs_from log (history ++ (seat, events.RotatedByItself) ∷ []))
within_turned limit log [] seat within = (within.0, (omega arith, tt))
within_turned limit log ((by, events.Called asked told) ∷ history) seat within = within_turned limit (log ++ record { seat = by; call = asked; answer = told } ∷ []) history seat within
within_turned limit log ((by, events.Rotated) ∷ history) seat within = (within.0, within_turned limit [] history seat within.1)
within_turned limit log ((by, events.RotatedByItself) ∷ history) seat within = (within.0, within_turned limit [] history seat within.1)

pub room_ready : (limit : ℕ) (history : List (ℕ × Event)) (due : Bool) (seat : ℕ) → AreWithin limit (logs_of history) → AreWithin limit (logs_of (history ++ turned due seat))
room_ready limit history true seat within = within_turned limit [] history seat within
room_ready limit history false seat within = subst (λ (h : List (ℕ × Event)). AreWithin limit (logs_of h)) (sym (append-nil history)) within

-- ---- where the next call stands

turned_place : (place : Place) (due : Bool) (seat : ℕ) → place_after place (turned due seat) ≡ if due then next_segment place else place
turned_place place true seat = refl
turned_place place false seat = refl

pub place_ready : (limits : Limits) (history : List (ℕ × Event)) (due : Bool) (seat : ℕ) → due ≡ is_due limits (place_of history) → place_of (history ++ turned due seat) ≡ place_for limits (place_of history)
place_ready limits history due seat is =
    place_append beginning history (turned due seat) ∙ turned_place (place_of history) due seat ∙ ap (λ (b : Bool). if b then next_segment (place_of history) else place_of history) is

pub place_called : (history : List (ℕ × Event)) (seat : ℕ) (call : Call) (answer : CallAnswer) → place_of (history ++ (seat, events.Called call answer) ∷ []) ≡ record { segment = (place_of history).segment; entries = suc (place_of history).entries }
place_called history seat call answer = place_append beginning history ((seat, events.Called call answer) ∷ [])

pub place_rotated : (history : List (ℕ × Event)) (seat : ℕ) → place_of (history ++ (seat, events.Rotated) ∷ []) ≡ next_segment (place_of history)
place_rotated history seat = place_append beginning history ((seat, events.Rotated) ∷ [])

-- whichever way a segment ends
pub place_ended : (history : List (ℕ × Event)) (event : ℕ × Event) → next_place (place_of history) event.1 ≡ next_segment (place_of history) → place_of (history ++ event ∷ []) ≡ next_segment (place_of history)
place_ended history event is = place_append beginning history (event ∷ []) ∙ is

-- ---- a seat that did nothing

pub fresh : (number members : ℕ) (seen history : List (ℕ × Event)) → number ≡ members → seen ≡ history → AreGiven members history → AreOthers number seen
fresh number members seen history next all given = rw (next, all) (none_given members history given)
