-- The logs into which a history is cut.
use Rattle.std.proofs.Common.{◌≡◌, ℕ, suc, ◌+◌, List, [], ◌∷◌, ◌++◌, length, length-append, append_assoc, Bool, true, false, arith, refl, ap, ◌∙◌}
use Rattle.std.specs.Prelude.{◌==◌, if◌then◌else◌}
use Rattle.tac_hall.specs.Calls.{Entry}
use Rattle.tac_hall.specs.View.{Made}
use Rattle.tac_hall.specs.View.{view_along}
use Rattle.tac_hall.specs.View.{part_of as view_in}
use Rattle.tac_hall.specs.declared.event.Event.{Event}
use Rattle.tac_hall.specs.declared.event.Event.TheVariants as events
use Rattle.tac_hall.specs.History.{calls_in, logs_from, joined, view_from, LogsLaw}
use Rattle.tac_hall.proofs.SegmentFacts.{logs_split}

joined_from : (log : List Entry) (history : List (ℕ × Event)) → joined (logs_from log history) ≡ log ++ calls_in history
joined_from log [] = refl
joined_from log ((seat, events.Called call answer) ∷ history) =
    let entry : Entry = record { seat = seat; call = call; answer = answer } in
    joined_from (log ++ entry ∷ []) history ∙ append_assoc log (entry ∷ []) (calls_in history)
joined_from log ((seat, events.Rotated) ∷ history) = ap (λ (l : List Entry). log ++ l) (joined_from [] history)
joined_from log ((seat, events.RotatedByItself) ∷ history) = ap (λ (l : List Entry). log ++ l) (joined_from [] history)

first_or_not : (mine : Bool) (made : Made) (whole one two : List Made) → whole ≡ one ++ two → (if mine then made ∷ whole else whole) ≡ (if mine then made ∷ one else one) ++ two
first_or_not true made whole one two same = ap (λ (l : List Made). made ∷ l) same
first_or_not false made whole one two same = same

view_more : (segment number place : ℕ) (log : List Entry) (entry : Entry) → view_in segment number place (log ++ entry ∷ []) ≡ view_in segment number place log ++ view_in segment number (place + length log) (entry ∷ [])
view_more segment number place [] entry = let here : place ≡ place + 0 = omega arith in ap (λ (p : ℕ). view_in segment number p (entry ∷ [])) here
view_more segment number place (first ∷ log) entry =
    let there : suc place + length log ≡ place + suc (length log) = omega arith in
    first_or_not (first.seat == number) (record { segment = segment; place = place; call = first.call; answer = first.answer }) (view_in segment number (suc place) (log ++ entry ∷ [])) (view_in segment number (suc place) log) (view_in segment number (place + suc (length log)) (entry ∷ []))
    (view_more segment number (suc place) log entry ∙ ap (λ (p : ℕ). view_in segment number (suc place) log ++ view_in segment number p (entry ∷ [])) there)

views_from : (number : ℕ) (log : List Entry) (segment entries : ℕ) (history : List (ℕ × Event)) → entries ≡ length log
    → view_along segment number (logs_from log history) ≡ view_in segment number 0 log ++ view_from number (record { segment = segment; entries = entries }) history
views_from number log segment entries [] same = refl
views_from number log segment entries ((seat, events.Called call answer) ∷ history) same =
    let entry : Entry = record { seat = seat; call = call; answer = answer } in
    let later : List Made = view_from number (record { segment = segment; entries = suc entries }) history in
    let at : 0 + length log ≡ entries = omega arith in
    views_from number (log ++ entry ∷ []) segment (suc entries) history (omega (arith, length-append log (entry ∷ []))) ∙ ap (λ (l : List Made). l ++ later) (view_more segment number 0 log entry ∙ ap (λ (p : ℕ). view_in segment number 0 log ++ view_in segment number p (entry ∷ [])) at)
    ∙ append_assoc (view_in segment number 0 log) (view_in segment number entries (entry ∷ [])) later
views_from number log segment entries ((seat, events.Rotated) ∷ history) same = ap (λ (l : List Made). view_in segment number 0 log ++ l) (views_from number [] (suc segment) 0 history refl)
views_from number log segment entries ((seat, events.RotatedByItself) ∷ history) same = ap (λ (l : List Made). view_in segment number 0 log ++ l) (views_from number [] (suc segment) 0 history refl)

pub logs_law : LogsLaw
logs_law history = (joined_from [] history, (λ number. views_from number [] 0 0 history refl), logs_split [] history)
