-- What lies under the lock, after one thing more was done.
use Rattle.std.proofs.Common.{◌≡◌, ℕ, suc, ◌+◌, ◌<◌, length, List, [], ◌∷◌, ◌++◌, Bool, false, arith, refl, sym, ap, ◌∙◌, subst}
use Rattle.tac_desk.specs.Meaning.{Meaning}
use Rattle.tac_hall.specs.declared.call.Call.{Call}
use Rattle.tac_hall.specs.declared.call.CallAnswer.{CallAnswer}
use Rattle.tac_hall.specs.Calls.{Entry}
use Rattle.tac_hall.specs.View.{Made}
use Rattle.tac_hall.specs.declared.receipt.Receipt.{Receipt}
use Rattle.tac_hall.specs.Calls.{Answers, IsOfKind, is_stop, is_closed, Legal, at_first, and_then}
use Rattle.tac_hall.specs.History.{last_segment}
use Rattle.tac_hall.specs.View.{AreBelow}
use Rattle.tac_hall.specs.Segments.{Stretch}
use Rattle.tac_hall.proofs.CallFacts.{closed_after}
use Rattle.tac_roll.specs.Roll.{Knows, Keeping, Membership}
use Rattle.tac_hall.specs.declared.event.Event.{Event}
use Rattle.tac_hall.specs.declared.event.Event.TheVariants as events
use Rattle.tac_hall.specs.declared.limits.Rotated.{Rotated}
use Rattle.tac_hall.specs.History.{Place, calls_in, place_of, view_of, rotations_of, next_segment, is_due, place_for, turned}
use Rattle.tac_hall.specs.Room.{Opening, IsLawful, IsCounted}
use Rattle.tac_hall.specs.Seat.{Seated, IsMade, IsRotated, CatchesUp}
use Rattle.tac_hall.specs.Segments.{IsPresent}
use Rattle.tac_hall.specs.Steps.{IsEnded}
use Rattle.tac_hall.proofs.SegmentFacts.{begun, with_call, ready_for, ready_end, present_first, present_called, present_ready, present_rotated}
use Rattle.tac_hall.proofs.ViewFacts.{views_law}
use Rattle.tac_hall.proofs.HistoryFacts.{calls_ready, calls_called, calls_rotated, place_ready, place_called, place_rotated, room_ready, room_called, room_rotated}
use Rattle.tac_hall.proofs.HistoryFacts.{view_same, view_ready, view_called, view_rotated, rotations_same, rotations_ready, rotations_called, rotations_rotated}

pub counted_first : (opening : Opening) (meaning : Meaning) (history : List (ℕ × Event)) → history ≡ [] → meaning ≡ opening.meaning → IsCounted opening history meaning (record { segment = 0; entries = 0 }) false
counted_first opening meaning history none same = rw (none, same) (record {
  lawful = record {
    legal = at_first;
    within = (omega arith, tt);
    present = begun 0 opening.meaning;
    segments = present_first opening.meaning;
    end = refl;
  };
  stands = refl;
  stopped = refl;
})

-- ---- a call

-- all that is known where a call is made: what is kept, that it may be made, where it stands then,
-- and its answer
pub record Calling (opening : Opening) (history : List (ℕ × Event)) (was now : Meaning) (due : Bool) (segment entries : ℕ) (call : Call) (answer : CallAnswer) : Type 0 where
  pub lawful : IsLawful opening history was
  pub goes_on : is_closed (calls_in history) ≡ false
  pub turns : due ≡ is_due opening.limits (place_of history)
  pub place : record { segment = segment; entries = entries } ≡ place_for opening.limits (place_of history)
  pub room : entries < opening.limits.calls
  pub answers : Answers was call answer now

module _ {opening : Opening} {history : List (ℕ × Event)} {was now : Meaning} {due : Bool} {segment entries : ℕ} {call : Call} {answer : CallAnswer} (c : Calling opening history was now due segment entries call answer) (seat : ℕ) where
  abbrev ready : List (ℕ × Event)
  ready = history ++ turned due seat

  abbrev later : List (ℕ × Event)
  later = ready ++ (seat, events.Called call answer) ∷ []

  abbrev entry : Entry
  entry = record { seat = seat; call = call; answer = answer }

  pub at_ready : place_of ready ≡ record { segment = segment; entries = entries }
  at_ready = place_ready opening.limits history due seat c.turns ∙ sym c.place

  goes_on_ready : is_closed (calls_in ready) ≡ false
  goes_on_ready = ap is_closed (calls_ready history due seat) ∙ c.goes_on

  -- the segment in which it stands
  abbrev stands_in : Stretch
  stands_in = ready_for due c.lawful.present

  answers_there : Answers stands_in.end call answer now
  answers_there = subst (λ (m : Meaning). Answers m call answer now) (sym (ready_end due c.lawful.present ∙ c.lawful.end)) c.answers

  calls_later : calls_in later ≡ calls_in history ++ entry ∷ []
  calls_later = calls_called ready seat call answer ∙ ap (λ (l : List Entry). l ++ entry ∷ []) (calls_ready history due seat)

  pub counted_called : (stop : Bool) → stop ≡ is_stop call → IsCounted opening later now (record { segment = segment; entries = entries + 1 }) stop
  counted_called stop is = record {
    lawful = record {
      legal = subst (λ (l : List Entry). Legal opening.meaning l now) (sym calls_later) (and_then entry c.lawful.legal c.goes_on c.answers);
      within = room_called opening.limits.calls ready seat call answer (room_ready opening.limits.calls history due seat c.lawful.within) (let same : (place_of ready).entries ≡ entries = ap (λ (p : Place). p.entries) at_ready in let room : entries < opening.limits.calls = c.room in omega arith);
      present = with_call stands_in entry now;
      segments = present_called opening.meaning ready stands_in seat call answer now (present_ready opening.meaning history c.lawful.present due seat c.lawful.segments c.goes_on) goes_on_ready answers_there;
      end = refl;
    };
    stands = place_called ready seat call answer ∙ (let more : suc entries ≡ entries + 1 = omega arith in ap (λ (p : Place). record { segment = p.segment; entries = suc p.entries }) at_ready ∙ ap (λ (n : ℕ). record { segment = segment; entries = n }) more);
    stopped = ap is_closed calls_later ∙ closed_after (calls_in history) entry c.goes_on ∙ sym is;
  }

  -- the seat's own share of it
  pub made_called : (seen : List (ℕ × Event)) (knows : Knows history seat seen) (receipt : Receipt) → receipt ≡ record { seat = seat; segment = segment; place = entries; answer = answer } → IsOfKind call answer
      → IsMade opening (record { number = seat; seen = seen }) call receipt (record { number = seat; seen = later })
  made_called seen knows receipt is kind =
      let others = knows.0 in
      let all : history ≡ seen ++ others = knows.1 in
      let due_there : due ≡ is_due opening.limits (place_of (seen ++ others)) = c.turns ∙ ap (λ (h : List (ℕ × Event)). is_due opening.limits (place_of h)) all in
      rw is (record {
        others = others;
        apart = knows.2;
        before = ready;
        all = (λ i. all i ++ turned (due_there i) seat);
        seen = refl;
        number = refl;
        seat = refl;
        place = at_ready;
        room = c.room;
        above = subst (λ (l : List Made). AreBelow segment entries l) (view_ready seat history due seat ∙ ap (view_of seat) all ∙ view_same seat seen others knows.2)
            (subst (λ (p : Place). AreBelow p.segment p.entries (view_of seat ready)) at_ready (views_law ready seat).1);
        kind = kind;
        goes_on = goes_on_ready;
        meaning = was;
        then = now;
        legal = subst (λ (l : List Entry). Legal opening.meaning l was) (sym (calls_ready history due seat)) c.lawful.legal;
        answers = c.answers;
        view = view_called seat ready call answer ∙ (λ i. (view_ready seat history due seat ∙ ap (view_of seat) all ∙ view_same seat seen others knows.2) i ++ record {
          segment = (at_ready i).segment;
          place = (at_ready i).entries;
          call = call;
          answer = answer;
        } ∷ []);
        rotations = rotations_called seat ready call answer ∙ rotations_ready seat history due seat ∙ ap (rotations_of seat) all ∙ rotations_same seat seen others knows.2;
      })

-- ---- a rotation

pub counted_rotated : (opening : Opening) (meaning : Meaning) (history : List (ℕ × Event)) (place : Place) (closed : Bool) (seat : ℕ) (next : ℕ) → IsCounted opening history meaning place closed → closed ≡ false → next ≡ suc place.segment
    → IsCounted opening (history ++ (seat, events.Rotated) ∷ []) meaning (record { segment = next; entries = 0 }) closed
counted_rotated opening meaning history place closed seat next h still is = record {
  lawful = record {
    legal = subst (λ (l : List Entry). Legal opening.meaning l meaning) (sym (calls_rotated history seat)) h.lawful.legal;
    within = room_rotated opening.limits.calls history seat h.lawful.within;
    present = begun (suc h.lawful.present.number) h.lawful.present.end;
    segments = present_rotated opening.meaning history h.lawful.present seat h.lawful.segments (h.stopped ∙ still);
    end = h.lawful.end;
  };
  stands = place_rotated history seat ∙ ap next_segment h.stands ∙ ap (λ (n : ℕ). record { segment = n; entries = 0 }) (sym is);
  stopped = ap is_closed (calls_rotated history seat) ∙ h.stopped;
}

-- what is told of the segment that ends: where the next call would have stood
told_of_place : (opening : Opening) (history : List (ℕ × Event)) (meaning : Meaning) (place : Place) (rotated : Rotated) (lawful : IsLawful opening history meaning) → place_of history ≡ place → rotated ≡ record { number = place.segment; entries = place.entries }
    → rotated ≡ record { number = lawful.present.number; entries = length lawful.present.log }
told_of_place opening history meaning place rotated lawful at is = is ∙ ap (λ (p : Place). record { number = p.segment; entries = p.entries }) (sym at ∙ lawful.segments.place)

-- what the step did
pub step_rotated : (opening : Opening) (meaning : Meaning) (history : List (ℕ × Event)) (place : Place) (seat seats : ℕ) (rotated : Rotated) (lawful : IsLawful opening history meaning) → place_of history ≡ place → is_closed (calls_in history) ≡ false → place.segment < last_segment → rotated ≡ record { number = place.segment; entries = place.entries }
    → IsEnded opening (record { history = history; seats = seats; meaning = meaning }) seat rotated (record { history = history ++ (seat, events.Rotated) ∷ []; seats = seats; meaning = meaning })
step_rotated opening meaning history place seat seats rotated lawful at goes_on numbered is = record {
  goes_on = goes_on;
  segment = lawful.present;
  present = lawful.segments;
  end = lawful.end;
  told = told_of_place opening history meaning place rotated lawful at is;
  numbered = subst (λ (r : Rotated). r.number < last_segment) (sym is) numbered;
  left = refl;
  next = subst (λ (m : Meaning). IsPresent opening.meaning (history ++ (seat, events.Rotated) ∷ []) (record { number = suc lawful.present.number; base = m; log = []; end = m })) lawful.end
      (present_rotated opening.meaning history lawful.present seat lawful.segments goes_on);
}

pub made_rotated : (opening : Opening) (meaning : Meaning) (history : List (ℕ × Event)) (place : Place) (seat : ℕ) (seen : List (ℕ × Event)) (rotated : Rotated) (lawful : IsLawful opening history meaning) → place_of history ≡ place → is_closed (calls_in history) ≡ false → place.segment < last_segment → Knows history seat seen → rotated ≡ record { number = place.segment; entries = place.entries }
    → IsRotated opening (record { number = seat; seen = seen }) rotated (record { number = seat; seen = history ++ (seat, events.Rotated) ∷ [] })
made_rotated opening meaning history place seat seen rotated lawful at goes_on numbered knows is =
    let others = knows.0 in
    let all : history ≡ seen ++ others = knows.1 in
    let told : record { number = (place_of history).segment; entries = (place_of history).entries } ≡ rotated = (λ i. record { number = (at i).segment; entries = (at i).entries }) ∙ sym is in
    record {
      others = others;
      apart = knows.2;
      seen = ap (λ (h : List (ℕ × Event)). h ++ (seat, events.Rotated) ∷ []) all;
      number = refl;
      goes_on = ap (λ (h : List (ℕ × Event)). is_closed (calls_in h)) (sym all) ∙ goes_on;
      segment = lawful.present;
      present = subst (λ (h : List (ℕ × Event)). IsPresent opening.meaning h lawful.present) all lawful.segments;
      told = told_of_place opening history meaning place rotated lawful at is;
      numbered = subst (λ (r : Rotated). r.number < last_segment) (sym is) numbered;
      place = ap place_of (sym all) ∙ at ∙ (λ i. record { segment = (sym is i).number; entries = (sym is i).entries });
      view = view_rotated seat history ∙ ap (view_of seat) all ∙ view_same seat seen others knows.2;
      rotations = rotations_rotated seat history ∙ (λ i. (ap (rotations_of seat) all ∙ rotations_same seat seen others knows.2) i ++ told i ∷ []);
    }

-- ---- a refusal

-- what is known of the whole, seen by who has seen a beginning of it
pub caught_up : (history : List (ℕ × Event)) (was now : Seated) → Knows history was.number was.seen → now ≡ record { number = was.number; seen = history } → CatchesUp was now
caught_up history was now knows is =
    let others = knows.0 in
    let all : now.seen ≡ was.seen ++ others = ap (λ (s : Seated). s.seen) is ∙ knows.1 in
    record {
      others = others;
      apart = knows.2;
      number = ap (λ (s : Seated). s.number) is;
      seen = all;
      view = ap (view_of was.number) all ∙ view_same was.number was.seen others knows.2;
      rotations = ap (rotations_of was.number) all ∙ rotations_same was.number was.seen others knows.2;
    }

-- the same of a member that was compared, and then caught up
pub caught_up_as : (keeper kept : Keeping Event) (was same now : Membership Event) → Knows keeper.all was.number was.seen → kept ≡ keeper → same ≡ was → now ≡ record same { seen = kept.all }
    → CatchesUp (record { number = was.number; seen = was.seen }) (record { number = now.number; seen = now.seen })
caught_up_as keeper kept was same now knows all is then =
    let number : now.number ≡ was.number = ap (λ (m : Membership Event). m.number) then ∙ ap (λ (m : Membership Event). m.number) is in
    let seen : now.seen ≡ keeper.all = ap (λ (m : Membership Event). m.seen) then ∙ ap (λ (k : Keeping Event). k.all) all in
    caught_up keeper.all (record { number = was.number; seen = was.seen }) (record { number = now.number; seen = now.seen }) knows (λ i. record { number = number i; seen = seen i })
