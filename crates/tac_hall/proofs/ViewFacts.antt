-- The order in which the calls of a seat stand.
use Rattle.std.proofs.Common.{◌≡◌, ◌≤◌, ◌<◌, ℕ, suc, List, [], ◌∷◌, ◌++◌, append-nil, append_assoc, Bool, true, false, arith, refl, sym, subst}
use Rattle.std.specs.Prelude.{◌==◌, if◌then◌else◌}
use Rattle.tac_hall.specs.View.{Made}
use Rattle.tac_hall.specs.View.{IsBelow, AreBelow, AreFrom, Rises}
use Rattle.tac_hall.specs.declared.event.Event.{Event}
use Rattle.tac_hall.specs.declared.event.Event.TheVariants as events
use Rattle.tac_hall.specs.History.{Place, beginning, next_place, next_segment, place_after, made_by, view_from, ViewsLaw}

-- ---- a call is added

-- the next place of the one segment isn't further than this place of the present segment
abbrev IsReached : ℕ → ℕ → ℕ → ℕ → Type 0
IsReached segment next present place = (segment ≤ present) × (segment ≡ present → next ≤ place)

below_more : (view : List Made) (segment next present place : ℕ) → IsReached segment next present place → AreBelow segment next view → AreBelow present place view
below_more [] segment next present place h b = tt
below_more (made ∷ view) segment next present place h b =
    let first = b.0 in
    let low : made.segment ≤ segment = first.0 in
    let high : segment ≤ present = h.0 in (
      (
        omega arith,
        λ same.
            let there : segment ≡ present = omega arith in
            let here : made.segment ≡ segment = omega arith in
            let below : made.place < next = first.1 here in
            let reached : next ≤ place = h.1 there in
            omega arith,
      ),
      below_more view segment next present place h b.1,
    )

below_after : (view : List Made) (made : Made) (segment place : ℕ) → AreBelow segment place view → IsBelow segment place made → AreBelow segment place (view ++ made ∷ [])
below_after [] made segment place b h = (h, tt)
below_after (first ∷ view) made segment place b h = (b.0, below_after view made segment place b.1 h)

from_after : (view : List Made) (made : Made) (low : ℕ) → AreFrom low view → low ≤ made.segment → AreFrom low (view ++ made ∷ [])
from_after [] made low f h = (h, tt)
from_after (first ∷ view) made low f h = (f.0, from_after view made low f.1 h)

rises_after : (view : List Made) (made : Made) → Rises view → AreBelow made.segment made.place view → Rises (view ++ made ∷ [])
rises_after [] made r b = (tt, tt)
rises_after (first ∷ view) made r b = (from_after view made first.segment r.0 b.0.0, rises_after view made r.1 b.1)

-- the places stay below the next one, and the segments rise
placed_pushed : (view reserved pushed : List Made) (made : Made) (segment next later : ℕ)
    → AreBelow segment next view × Rises view → IsReached segment next made.segment made.place → later ≡ suc made.place → reserved ≡ view → pushed ≡ reserved ++ made ∷ []
    → AreBelow made.segment later pushed × Rises pushed
placed_pushed view reserved pushed made segment next later h reached after same added =
    let below = below_more view segment next made.segment made.place reached h.0 in
    let more : IsReached made.segment made.place made.segment later = (omega arith, λ _. omega arith) in
    let itself : IsBelow made.segment later made = (omega arith, λ _. omega arith) in
    rw (added, same) (
      below_after view made made.segment later (below_more view made.segment made.place made.segment later more below) itself,
      rises_after view made h.1 below,
    )

-- ---- one thing after another

abbrev IsPlaced : Place → List Made → Type 0
IsPlaced place view = AreBelow place.segment place.entries view × Rises view

nothing_more : (place : Place) (view : List Made) → IsPlaced place view → IsPlaced place (view ++ [])
nothing_more place view h = subst (λ (l : List Made). IsPlaced place l) (sym (append-nil view)) h

later_call : (place : Place) (view : List Made) → IsPlaced place view → IsPlaced (record place { entries = suc place.entries }) view
later_call place view h =
    let reached : IsReached place.segment place.entries place.segment (suc place.entries) = (omega arith, λ _. omega arith) in
    (below_more view place.segment place.entries place.segment (suc place.entries) reached h.0, h.1)

later_segment : (place : Place) (view : List Made) → IsPlaced place view → IsPlaced (next_segment place) view
later_segment place view h =
    let reached : IsReached place.segment place.entries (suc place.segment) 0 = (omega arith, λ same. absurd (omega arith)) in
    (below_more view place.segment place.entries (suc place.segment) 0 reached h.0, h.1)

one_call : (mine : Bool) (place : Place) (view : List Made) (made : Made) → made.segment ≡ place.segment → made.place ≡ place.entries → IsPlaced place view
    → IsPlaced (record place { entries = suc place.entries }) (view ++ (if mine then made ∷ [] else []))
one_call true place view made segment at h =
    let reached : IsReached place.segment place.entries made.segment made.place = (omega arith, λ _. omega arith) in
    let next : suc place.entries ≡ suc made.place = omega arith in
    subst (λ (n : ℕ). AreBelow n (suc place.entries) (view ++ made ∷ []) × Rises (view ++ made ∷ [])) segment
    (placed_pushed view view (view ++ made ∷ []) made place.segment place.entries (suc place.entries) h reached next refl refl)
one_call false place view made segment at h = nothing_more (record place { entries = suc place.entries }) view (later_call place view h)

one_more : (number : ℕ) (place : Place) (view : List Made) (seat : ℕ) (event : Event) → IsPlaced place view → IsPlaced (next_place place event) (view ++ made_by number place seat event)
one_more number place view seat (events.Called call answer) h = one_call (seat == number) place view (record { segment = place.segment; place = place.entries; call = call; answer = answer }) refl refl h
one_more number place view seat events.Rotated h = nothing_more (next_segment place) view (later_segment place view h)
one_more number place view seat events.RotatedByItself h = nothing_more (next_segment place) view (later_segment place view h)

placed_from : (number : ℕ) (place : Place) (view : List Made) (history : List (ℕ × Event)) → IsPlaced place view → IsPlaced (place_after place history) (view ++ view_from number place history)
placed_from number place view [] h = nothing_more place view h
placed_from number place view (event ∷ history) h =
    let next : Place = next_place place event.1 in
    let first : List Made = made_by number place event.0 event.1 in
    subst (λ (l : List Made). IsPlaced (place_after next history) l) (append_assoc view first (view_from number next history))
    (placed_from number next (view ++ first) history (one_more number place view event.0 event.1 h))

pub views_law : ViewsLaw
views_law history number =
    let h = placed_from number beginning [] history (tt, tt) in
    (h.1, h.0)
