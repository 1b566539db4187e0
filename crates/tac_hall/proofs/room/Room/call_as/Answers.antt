use Rattle.std.proofs.Common.{◌≡◌, ℕ, ◌+◌, List, [], ◌∷◌, ◌++◌, sym, ap, ◌∙◌, subst}
use Rattle.tac_roll.specs.Roll.{Knows, Keeping}
use Rattle.tac_hall.specs.declared.event.Event.{Event}
use Rattle.tac_hall.specs.declared.event.Event.TheVariants as events
use Rattle.tac_hall.specs.History.{turned}
use Rattle.tac_hall.specs.Room.{IsLawful, IsCounted}
use Rattle.tac_hall.specs.Seat.{Seated, IsMade}
use Rattle.tac_hall.proofs.RoomFacts.{Calling, counted_called, made_called, caught_up_as}
use Rattle.tac_hall.proofs.room.Room.call_as.Goals as goal

pub invariant_of-self-2 : goal.invariant_of-self-2
invariant_of-self-2 g c =
    let same = c.compare-member.ensures.same in
    let begun = c.begin_segment-member.ensures in
    let added = c.add-member.ensures in
    let judged = c.in-Ok.ensures in
    let number = c.compare-member.result.number in
    let event = events.Called c.args.call.now c.in-Ok-answer.answer in
    let is : events.Called c.of.result c.of-2.result ≡ event = (λ i. events.Called (c.of.ensures i) (c.of-2.ensures i)) in
    let counted = subst (λ (k : Keeping Event). IsCounted g.J.Run.opening k.all (g.D.Desk.meaning c.self.inside.desk) (record { segment = c.self.inside.segment; entries = c.self.inside.entries }) c.self.inside.closed) (sym same.0) c.self.invariant.3 in
    let calling : Calling g.J.Run.opening c.compare-member.new.keeper.all (g.D.Desk.meaning c.self.inside.desk) (g.D.Desk.meaning c.answer.new.desk) c.in-Ok.next.is_due c.in-Ok.next.segment c.in-Ok.next.entries c.args.call.now c.in-Ok-answer.answer =
    record { lawful = counted.lawful; goes_on = judged.0; turns = judged.1; place = judged.2; room = judged.3; answers = c.in-Ok-answer.ensures.answers } in
    let later : c.add-member.new.keeper.all ≡ (c.compare-member.new.keeper.all ++ turned c.in-Ok.next.is_due number) ++ (number, event) ∷ [] =
    ap (λ k. k.all) added.keeper ∙ (λ i. (ap (λ k. k.all) begun.keeper) i ++ (begun.member.1 i, is i) ∷ []) in (
      ap (λ k. k.roll) added.keeper ∙ ap (λ k. k.roll) begun.keeper ∙ ap (λ k. k.roll) same.0 ∙ c.self.invariant.0,
      c.self.invariant.1,
      ap (λ k. k.members) added.keeper ∙ ap (λ k. k.members) begun.keeper ∙ ap (λ k. k.members) same.0 ∙ c.self.invariant.2,
      subst (λ (h : List (ℕ × Event)). IsCounted g.J.Run.opening h (g.D.Desk.meaning c.answer.new.desk) (record { segment = c.in-Ok.next.segment; entries = c.in-Ok.next.entries + 1 }) c.is_stop-self-inside.result) (sym later)
          (counted_called calling number c.is_stop-self-inside.result c.is_stop-self-inside.ensures),
      c.self.invariant.4,
    )

pub returns-clause-lawful : goal.returns-clause-lawful
returns-clause-lawful g c =
    let same = c.compare-member.ensures.same in
    let begun = c.begin_segment-member.ensures in
    let added = c.add-member.ensures in
    let judged = c.in-Ok.ensures in
    let number = c.compare-member.result.number in
    let event = events.Called c.args.call.now c.in-Ok-answer.answer in
    let is : events.Called c.of.result c.of-2.result ≡ event = (λ i. events.Called (c.of.ensures i) (c.of-2.ensures i)) in
    let counted = subst (λ (k : Keeping Event). IsCounted g.J.Run.opening k.all (g.D.Desk.meaning c.self.inside.desk) (record { segment = c.self.inside.segment; entries = c.self.inside.entries }) c.self.inside.closed) (sym same.0) c.self.invariant.3 in
    let calling : Calling g.J.Run.opening c.compare-member.new.keeper.all (g.D.Desk.meaning c.self.inside.desk) (g.D.Desk.meaning c.answer.new.desk) c.in-Ok.next.is_due c.in-Ok.next.segment c.in-Ok.next.entries c.args.call.now c.in-Ok-answer.answer =
    record { lawful = counted.lawful; goes_on = judged.0; turns = judged.1; place = judged.2; room = judged.3; answers = c.in-Ok-answer.ensures.answers } in
    let later : c.add-member.new.keeper.all ≡ (c.compare-member.new.keeper.all ++ turned c.in-Ok.next.is_due number) ++ (number, event) ∷ [] =
    ap (λ k. k.all) added.keeper ∙ (λ i. (ap (λ k. k.all) begun.keeper) i ++ (begun.member.1 i, is i) ∷ []) in
    subst (λ (h : List (ℕ × Event)). IsLawful g.J.Run.opening h (g.D.Desk.meaning c.answer.new.desk)) (sym later)
    (counted_called calling number c.is_stop-self-inside.result c.is_stop-self-inside.ensures).lawful

pub returns-clause-made : goal.returns-clause-made
returns-clause-made g c =
    let same = c.compare-member.ensures.same in
    let begun = c.begin_segment-member.ensures in
    let added = c.add-member.ensures in
    let judged = c.in-Ok.ensures in
    let number = c.compare-member.result.number in
    let event = events.Called c.args.call.now c.in-Ok-answer.answer in
    let is : events.Called c.of.result c.of-2.result ≡ event = (λ i. events.Called (c.of.ensures i) (c.of-2.ensures i)) in
    let seen = c.args.member.seen in
    let counted = subst (λ (k : Keeping Event). IsCounted g.J.Run.opening k.all (g.D.Desk.meaning c.self.inside.desk) (record { segment = c.self.inside.segment; entries = c.self.inside.entries }) c.self.inside.closed) (sym same.0) c.self.invariant.3 in
    let calling : Calling g.J.Run.opening c.compare-member.new.keeper.all (g.D.Desk.meaning c.self.inside.desk) (g.D.Desk.meaning c.answer.new.desk) c.in-Ok.next.is_due c.in-Ok.next.segment c.in-Ok.next.entries c.args.call.now c.in-Ok-answer.answer =
    record { lawful = counted.lawful; goes_on = judged.0; turns = judged.1; place = judged.2; room = judged.3; answers = c.in-Ok-answer.ensures.answers } in
    let later : c.add-member.new.keeper.all ≡ (c.compare-member.new.keeper.all ++ turned c.in-Ok.next.is_due number) ++ (number, event) ∷ [] =
    ap (λ k. k.all) added.keeper ∙ (λ i. (ap (λ k. k.all) begun.keeper) i ++ (begun.member.1 i, is i) ∷ []) in
    let knows : Knows c.compare-member.new.keeper.all number seen = subst (λ (x : List (ℕ × Event) × ℕ). Knows x.0 x.1 seen) (λ i. ((sym same.0 i).all, (sym same.1 i).number)) c.compare-member.ensures.knows in
    let mine : c.args.number ≡ number = c.requires.member.1 ∙ ap (λ m. m.number) (sym same.1) in
    let made = made_called calling number seen knows (record { seat = c.args.number; segment = c.in-Ok.next.segment; place = c.in-Ok.next.entries; answer = c.in-Ok-answer.answer })
    (λ i. record { seat = mine i; segment = c.in-Ok.next.segment; place = c.in-Ok.next.entries; answer = c.in-Ok-answer.answer }) c.in-Ok-answer.ensures.kind in
    let was : ◌≡◌ {A = Seated} (record { number = number; seen = seen }) (record { number = c.args.member.number; seen = seen }) = (λ i. record { number = (same.1 i).number; seen = seen }) in
    let count = ap (λ m. m.number) added.member ∙ begun.member.1 in
    let all = ap (λ m. m.seen) added.member ∙ later in
    subst (λ (x : Seated × Seated). IsMade g.J.Run.opening x.0 c.args.call.now (record { seat = c.args.number; segment = c.in-Ok.next.segment; place = c.in-Ok.next.entries; answer = c.in-Ok-answer.answer }) x.1)
    (λ i. (was i, record { number = sym count i; seen = sym all i })) made

pub returns-in-Err-clause-err : goal.returns-in-Err-clause-err
returns-in-Err-clause-err g c =
    let same = c.compare-member.ensures.same in
    caught_up_as c.self.inside.keeper c.compare-member.new.keeper c.args.member c.compare-member.result c.catch_up.result c.compare-member.ensures.knows same.0 same.1 c.catch_up.ensures.member

pub returns-in-Err-answer-clause-err : goal.returns-in-Err-answer-clause-err
returns-in-Err-answer-clause-err g c =
    let same = c.compare-member.ensures.same in
    caught_up_as c.self.inside.keeper c.compare-member.new.keeper c.args.member c.compare-member.result c.catch_up-member.result c.compare-member.ensures.knows same.0 same.1 c.catch_up-member.ensures.member
