-- Whether all seats are there, and what they have seen.
use Rattle.std.proofs.Common.{◌≡◌, ◌≢◌, ⊎_elim, ℕ, zero, suc, ◌-◌, ◌<◌, List, Bool, true, false, ◌&&◌, arith, refl, sym, ap, ◌∙◌, subst}
use Rattle.std.specs.Prelude.{All, ◌==◌}
use Rattle.std.proofs.lemmas.List.Elements.{All-weaker}
use Rattle.std.proofs.lemmas.Bool.Decides.{eqb_tells}
use Rattle.tac_desk.specs.Meaning.{Meaning}
use Rattle.tac_roll.specs.Roll.{AreGiven, Knows}
use Rattle.tac_hall.specs.declared.event.Event.{Event}
use Rattle.tac_hall.specs.declared.limits.Rotated.{Rotated}
use Rattle.tac_hall.specs.History.{Place, place_of, view_of, rotations_of}
use Rattle.tac_hall.specs.Room.{Opening, IsLawful}
use Rattle.tac_hall.specs.Seat.{Seated}
use Rattle.tac_hall.specs.Closing.{is_there, are_there, HasAll, IsSettled, IsSettledAt}
use Rattle.tac_hall.proofs.HistoryFacts.{view_known, rotations_known}

-- the seats of all numbers below one, and of that one
pub there_more : (left : ℕ) (seats : List Seated) → 0 < left → are_there left seats ≡ (is_there (left - 1) seats && are_there (left - 1) seats)
there_more zero seats some = absurd (omega arith)
there_more (suc left) seats some =
    let e : suc left - 1 ≡ left = omega arith in
    rw e refl

both_true : (a b : Bool) → (a && b) ≡ true → (a ≡ true) × (b ≡ true)
both_true true b h = (refl, h)
both_true false b h = cc

there_below : (numbers : ℕ) (seats : List Seated) (number : ℕ) → are_there numbers seats ≡ true → number < numbers → is_there number seats ≡ true
there_below zero seats number there below = absurd (omega arith)
there_below (suc numbers) seats number there below =
    let t = both_true (is_there numbers seats) (are_there numbers seats) there in
    ⊎_elim
    (λ (e : ((number == numbers) ≡ true) × (number ≡ numbers)). subst (λ (n : ℕ). is_there n seats ≡ true) (sym e.1) t.0)
    (λ (e : ((number == numbers) ≡ false) × (number ≢ numbers)). there_below numbers seats number t.1 (let other : number ≢ numbers = e.1 in omega arith))
    (eqb_tells number numbers)

pub settled : (opening : Opening) (history : List (ℕ × Event)) (last : Meaning) (numbers : ℕ) (seats : List Seated) → IsLawful opening history last → HasAll numbers seats → AreGiven numbers history
    → All (λ (seat : Seated). Knows history seat.number seat.seen) seats → IsSettled opening last seats
settled opening history last numbers seats lawful there given know = record {
  history = history;
  legal = lawful.legal;
  present = lawful.present;
  segments = lawful.segments;
  end = lawful.end;
  within = lawful.within;
  know = know;
  views = All-weaker (λ (seat : Seated). Knows history seat.number seat.seen) (λ (seat : Seated). view_of seat.number history ≡ view_of seat.number seat.seen) (λ seat k. view_known history seat.number seat.seen k) seats know;
  rotated = All-weaker (λ (seat : Seated). Knows history seat.number seat.seen) (λ (seat : Seated). rotations_of seat.number history ≡ rotations_of seat.number seat.seen) (λ seat k. rotations_known history seat.number seat.seen k) seats know;
  theirs = All-weaker (λ (event : ℕ × Event). event.0 < numbers) (λ (event : ℕ × Event). is_there event.0 seats ≡ true) (λ event below. there_below numbers seats event.0 there.1 below) history given;
  there = subst (λ (n : ℕ). are_there n seats ≡ true) (sym there.0) there.1;
}

pub settled_at : (opening : Opening) (history : List (ℕ × Event)) (last : Meaning) (numbers : ℕ) (seats : List Seated) (told : Rotated) → IsLawful opening history last → HasAll numbers seats → AreGiven numbers history
    → All (λ (seat : Seated). Knows history seat.number seat.seen) seats → record { segment = told.number; entries = told.entries } ≡ place_of history → IsSettledAt opening told last seats
unfolding settled
settled_at opening history last numbers seats told lawful there given know at = record {
  settled = settled opening history last numbers seats lawful there given know;
  present = ap (λ (p : Place). record { number = p.segment; entries = p.entries }) (at ∙ lawful.segments.place);
}
