-- The segments of a history to which something is added.
use Rattle.std.proofs.Common.{◌≡◌, ℕ, suc, ◌+◌, List, [], ◌∷◌, ◌++◌, map, length, length-append, append-nil, append_assoc, Bool, true, false, ◌||◌, arith, refl, sym, ap, ◌∙◌, subst}
use Rattle.tac_desk.specs.Meaning.{Meaning}
use Rattle.tac_hall.specs.declared.call.Call.{Call}
use Rattle.tac_hall.specs.declared.call.CallAnswer.{CallAnswer}
use Rattle.tac_hall.specs.Calls.{Entry}
use Rattle.tac_hall.specs.Calls.{Answers, is_stop, is_closed, at_first, and_then}
use Rattle.tac_hall.specs.Segments.{Stretch, IsStretch}
use Rattle.tac_hall.specs.declared.event.Event.{Event}
use Rattle.tac_hall.specs.declared.event.Event.TheVariants as events
use Rattle.tac_hall.specs.History.{Place, calls_in, place_of, log_with, log_from, log_of, ended_by, ended_from, ended_of, logs_from, joined, turned, next_segment}
use Rattle.tac_hall.specs.Segments.{AreJoined, IsPresent}
use Rattle.tac_hall.proofs.HistoryFacts.{place_called, place_ended}

-- ---- one part after another

log_append : (log : List Entry) (one two : List (ℕ × Event)) → log_from log (one ++ two) ≡ log_from (log_from log one) two
log_append log [] two = refl
log_append log (event ∷ one) two = log_append (log_with log event.0 event.1) one two

ended_append : (log : List Entry) (one two : List (ℕ × Event)) → ended_from log (one ++ two) ≡ ended_from log one ++ ended_from (log_from log one) two
ended_append log [] two = refl
ended_append log (event ∷ one) two =
    let first : List (List Entry) = ended_by log event.1 in
    let present : List Entry = log_with log event.0 event.1 in
    ap (λ (l : List (List Entry)). first ++ l) (ended_append present one two) ∙ sym (append_assoc first (ended_from present one) (ended_from (log_from present one) two))

-- ---- all logs

pub logs_split : (log : List Entry) (history : List (ℕ × Event)) → logs_from log history ≡ ended_from log history ++ log_from log history ∷ []
logs_split log [] = refl
logs_split log ((seat, events.Called call answer) ∷ history) = logs_split (log ++ record { seat = seat; call = call; answer = answer } ∷ []) history
logs_split log ((seat, events.Rotated) ∷ history) = ap (λ (l : List (List Entry)). log ∷ l) (logs_split [] history)
logs_split log ((seat, events.RotatedByItself) ∷ history) = ap (λ (l : List (List Entry)). log ∷ l) (logs_split [] history)

-- the calls are those of the segments that have ended, and then those of the present one
calls_split : (log : List Entry) (history : List (ℕ × Event)) → log ++ calls_in history ≡ joined (ended_from log history) ++ log_from log history
calls_split log [] = append-nil log
calls_split log ((seat, events.Called call answer) ∷ history) =
    let entry : Entry = record { seat = seat; call = call; answer = answer } in
    sym (append_assoc log (entry ∷ []) (calls_in history)) ∙ calls_split (log ++ entry ∷ []) history
calls_split log ((seat, events.Rotated) ∷ history) =
    ap (λ (l : List Entry). log ++ l) (calls_split [] history) ∙ sym (append_assoc log (joined (ended_from [] history)) (log_from [] history))
calls_split log ((seat, events.RotatedByItself) ∷ history) =
    ap (λ (l : List Entry). log ++ l) (calls_split [] history) ∙ sym (append_assoc log (joined (ended_from [] history)) (log_from [] history))

or_last : (first rest : Bool) → (first || rest) ≡ false → rest ≡ false
or_last true rest h = cc
or_last false rest h = h

closed_last : (one two : List Entry) → is_closed (one ++ two) ≡ false → is_closed two ≡ false
closed_last [] two h = h
closed_last (entry ∷ one) two h = closed_last one two (or_last (is_stop entry.call) (is_closed (one ++ two)) h)

-- where there was no Stop, the present segment has none
pub goes_on_there : (history : List (ℕ × Event)) → is_closed (calls_in history) ≡ false → is_closed (log_of history) ≡ false
goes_on_there history h = closed_last (joined (ended_of history)) (log_of history) (ap is_closed (sym (calls_split [] history)) ∙ h)

-- ---- segments that have ended

joined_more : (number : ℕ) (base middle : Meaning) (segments : List Stretch) (last : Stretch) → AreJoined number base segments middle → last.number ≡ number + length segments → last.base ≡ middle → IsStretch last
    → AreJoined number base (segments ++ last ∷ []) last.end
joined_more number base middle [] last h at begins is =
    let here : last.number ≡ number = omega arith in
    (here, begins ∙ h, is, refl)
joined_more number base middle (first ∷ segments) last h at begins is =
    let here : last.number ≡ suc number + length segments = omega arith in
    (h.0, h.1, h.2, joined_more (suc number) first.end middle segments last h.3 here begins is)

map_more : {A B : Type 0} (f : A → B) (xs : List A) (last : A) → map f (xs ++ last ∷ []) ≡ map f xs ++ f last ∷ []
map_more f [] last = refl
map_more f (x ∷ xs) last = ap (λ ys. f x ∷ ys) (map_more f xs last)

-- ---- the present one

abbrev pub begun : ℕ → Meaning → Stretch
begun number base = record { number = number; base = base; log = []; end = base }

pub present_first : (first : Meaning) → IsPresent first [] (begun 0 first)
present_first first = record {
  ended = [];
  joined = refl;
  logs = refl;
  number = refl;
  log = refl;
  legal = at_first;
  place = refl;
}

abbrev pub with_call : Stretch → Entry → Meaning → Stretch
with_call present entry now = record { number = present.number; base = present.base; log = present.log ++ entry ∷ []; end = now }

-- a call is added
pub present_called : (first : Meaning) (history : List (ℕ × Event)) (present : Stretch) (seat : ℕ) (call : Call) (answer : CallAnswer) (now : Meaning) → IsPresent first history present
    → is_closed (calls_in history) ≡ false → Answers present.end call answer now
    → IsPresent first (history ++ (seat, events.Called call answer) ∷ []) (with_call present (record { seat = seat; call = call; answer = answer }) now)
present_called first history present seat call answer now h goes_on answers =
    let entry : Entry = record { seat = seat; call = call; answer = answer } in
    let event : ℕ × Event = (seat, events.Called call answer) in
    let still : is_closed present.log ≡ false = ap is_closed h.log ∙ goes_on_there history goes_on in
    let more : suc (length present.log) ≡ length (present.log ++ entry ∷ []) = omega (arith, length-append present.log (entry ∷ [])) in
    record {
      ended = h.ended;
      joined = h.joined;
      logs = ended_append [] history (event ∷ []) ∙ append-nil (ended_of history) ∙ h.logs;
      number = h.number;
      log = ap (λ (l : List Entry). l ++ entry ∷ []) h.log ∙ sym (log_append [] history (event ∷ []));
      legal = and_then entry h.legal still answers;
      place = place_called history seat call answer ∙ ap (λ (p : Place). record { segment = p.segment; entries = suc p.entries }) h.place
          ∙ ap (λ (n : ℕ). record { segment = present.number; entries = n }) more;
    }

-- it has ended, and the next one begins
ended_there : (first : Meaning) (history : List (ℕ × Event)) (present : Stretch) (event : ℕ × Event) → IsPresent first history present → is_closed (calls_in history) ≡ false
    → ended_by (log_of history) event.1 ≡ log_of history ∷ [] → log_with (log_of history) event.0 event.1 ≡ [] → place_of (history ++ event ∷ []) ≡ next_segment (place_of history)
    → IsPresent first (history ++ event ∷ []) (begun (suc present.number) present.end)
ended_there first history present event h goes_on ends begins at =
    let still : is_closed present.log ≡ false = ap is_closed h.log ∙ goes_on_there history goes_on in
    let count : suc present.number ≡ length (h.ended ++ present ∷ []) = omega (arith, length-append h.ended (present ∷ []), h.number) in
    let last : present.number ≡ 0 + length h.ended = omega (arith, h.number) in
    record {
      ended = h.ended ++ present ∷ [];
      joined = joined_more 0 first present.base h.ended present h.joined last refl (record { legal = h.legal; goes_on = still });
      logs = ended_append [] history (event ∷ []) ∙ ap (λ (l : List (List Entry)). ended_of history ++ l) (append-nil (ended_by (log_of history) event.1) ∙ ends) ∙ (λ i. h.logs i ++ (sym h.log i) ∷ []) ∙ sym (map_more (λ (segment : Stretch). segment.log) h.ended present);
      number = count;
      log = sym (log_append [] history (event ∷ []) ∙ begins);
      legal = at_first;
      place = at ∙ ap next_segment h.place;
    }

pub present_rotated : (first : Meaning) (history : List (ℕ × Event)) (present : Stretch) (seat : ℕ) → IsPresent first history present → is_closed (calls_in history) ≡ false
    → IsPresent first (history ++ (seat, events.Rotated) ∷ []) (begun (suc present.number) present.end)
present_rotated first history present seat h goes_on = ended_there first history present (seat, events.Rotated) h goes_on refl refl (place_ended history (seat, events.Rotated) refl)

-- what is the present one before a call
abbrev pub ready_for : Bool → Stretch → Stretch
ready_for true present = begun (suc present.number) present.end
ready_for false present = present

pub ready_end : (due : Bool) (present : Stretch) → (ready_for due present).end ≡ present.end
ready_end true present = refl
ready_end false present = refl

pub present_ready : (first : Meaning) (history : List (ℕ × Event)) (present : Stretch) (due : Bool) (seat : ℕ) → IsPresent first history present → is_closed (calls_in history) ≡ false
    → IsPresent first (history ++ turned due seat) (ready_for due present)
present_ready first history present true seat h goes_on = ended_there first history present (seat, events.RotatedByItself) h goes_on refl refl (place_ended history (seat, events.RotatedByItself) refl)
present_ready first history present false seat h goes_on = subst (λ (l : List (ℕ × Event)). IsPresent first l present) (sym (append-nil history)) h
