-- A seat of a hall that caught up before it did something may as well do so then.
use Rattle.std.proofs.Common.{◌≡◌, ℕ, List, [], ◌∷◌, ◌++◌, ap, subst, ◌∙◌, append_assoc}
use Rattle.std.specs.Prelude.{◌≢◌}
use Rattle.std.proofs.lemmas.List.Elements.{All-append}
use Rattle.tac_hall.specs.declared.event.Event.{Event}
use Rattle.tac_hall.specs.History.{before_call, view_of, rotations_of}
use Rattle.tac_hall.specs.Room.{Opening}
use Rattle.tac_hall.specs.Seat.{Seated, IsMade, CatchesUp}
use Rattle.tac_hall.specs.declared.call.Call.TheVariants as calls
use Rattle.tac_hall.specs.View.{Made, made_of, AreBelow}
use Rattle.tac_roll.specs.Roll.{AreOthers}
use Rattle.tac_worker.specs.AtHall.{MakesOne}
use Rattle.tac_worker.specs.Worked.{Exchange, receipt_for}

-- it saw what others did, and then more of that
pub catches_on : (was mid now : Seated) → CatchesUp was mid → CatchesUp mid now
    → CatchesUp was now
catches_on was mid now a b = record {
  others = a.others ++ b.others;
  apart = All-append (λ (item : ℕ × Event). item.0 ≢ was.number) a.others b.others a.apart
      (subst (λ (n : ℕ). AreOthers n b.others) a.number b.apart);
  number = b.number ∙ a.number;
  seen = b.seen ∙ ap (λ (l : List (ℕ × Event)). l ++ b.others) a.seen
      ∙ append_assoc was.seen a.others b.others;
  view = subst (λ (n : ℕ). view_of n now.seen ≡ view_of n mid.seen) a.number b.view ∙ a.view;
  rotations =
      subst (λ (n : ℕ). rotations_of n now.seen ≡ rotations_of n mid.seen) a.number b.rotations
      ∙ a.rotations;
}

-- it saw what others did, and then made this exchange
pub makes_after : (opening : Opening) (was mid now : Seated) (exchange : Exchange)
    → CatchesUp was mid → MakesOne opening mid exchange now → MakesOne opening was exchange now
makes_after opening was mid now exchange c h =
    let m : IsMade opening (record { number = was.number; seen = mid.seen })
    (calls.Ask exchange.ask) (receipt_for was.number exchange) now =
    subst (λ (n : ℕ). IsMade opening (record { number = n; seen = mid.seen })
    (calls.Ask exchange.ask) (receipt_for n exchange) now) c.number h in
    record {
      others = c.others ++ m.others;
      apart = All-append (λ (item : ℕ × Event). item.0 ≢ was.number) c.others m.others c.apart
          m.apart;
      before = m.before;
      all = m.all ∙ ap (before_call opening.limits was.number)
          (ap (λ (l : List (ℕ × Event)). l ++ m.others) c.seen
          ∙ append_assoc was.seen c.others m.others);
      seen = m.seen;
      number = m.number;
      seat = m.seat;
      place = m.place;
      room = m.room;
      above = subst (AreBelow exchange.segment exchange.place) c.view m.above;
      kind = m.kind;
      goes_on = m.goes_on;
      meaning = m.meaning;
      then = m.then;
      legal = m.legal;
      answers = m.answers;
      view = m.view ∙ ap (λ (l : List Made). l ++ made_of (calls.Ask exchange.ask)
          (receipt_for was.number exchange) ∷ []) c.view;
      rotations = m.rotations ∙ c.rotations;
    }
