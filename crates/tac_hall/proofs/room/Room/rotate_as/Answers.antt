use Rattle.std.proofs.Common.{◌≡◌, ◌<◌, ℕ, suc, List, [], ◌∷◌, ◌++◌, false, rules, arith, sym, ap, ◌∙◌, subst}
use Rattle.tac_roll.specs.Roll.{Knows, Keeping}
use Rattle.tac_hall.specs.History.{last_segment}
use Rattle.tac_hall.specs.declared.event.Event.{Event}
use Rattle.tac_hall.specs.declared.event.Event.TheVariants as events
use Rattle.tac_hall.specs.History.{Place}
use Rattle.tac_hall.specs.Room.{IsLawful, IsCounted}
use Rattle.tac_hall.specs.Steps.{IsEnded}
use Rattle.tac_hall.specs.Seat.{Seated, IsRotated}
use Rattle.tac_hall.proofs.RoomFacts.{counted_rotated, step_rotated, made_rotated, caught_up_as}
use Rattle.tac_hall.proofs.room.Room.rotate_as.Goals as goal

pub invariant_of-self-2 : goal.invariant_of-self-2
invariant_of-self-2 g c =
    let same = c.compare-member.ensures.same in
    let added = c.add-member.ensures in
    let number = c.compare-member.result.number in
    let counted = subst (λ (k : Keeping Event). IsCounted g.J.Run.opening k.all (g.D.Desk.meaning c.self.inside.desk) (record { segment = c.self.inside.segment; entries = c.self.inside.entries }) c.self.inside.closed) (sym same.0) c.self.invariant.3 in
    let next : c.replace.new.dest ≡ suc c.self.inside.segment = search rules in
    let none : 0 ≡ c.replace-2.new.dest = search rules in
    let still : c.self.inside.closed ≡ false = search rules in
    let rotated = counted_rotated _ _ _ _ _ number c.replace.new.dest counted still next in (
      ap (λ k. k.roll) added.keeper ∙ ap (λ k. k.roll) same.0 ∙ c.self.invariant.0,
      c.self.invariant.1,
      ap (λ k. k.members) added.keeper ∙ ap (λ k. k.members) same.0 ∙ c.self.invariant.2,
      subst (λ (x : List (ℕ × Event) × Place). IsCounted g.J.Run.opening x.0 (g.D.Desk.meaning c.self.inside.desk) x.1 c.self.inside.closed)
          (λ i. (ap (λ k. k.all) (sym added.keeper) i, record { segment = c.replace.new.dest; entries = none i })) rotated,
      c.self.invariant.4,
    )

pub returns-clause-lawful : goal.returns-clause-lawful
returns-clause-lawful g c =
    let same = c.compare-member.ensures.same in
    let added = c.add-member.ensures in
    let number = c.compare-member.result.number in
    let counted = subst (λ (k : Keeping Event). IsCounted g.J.Run.opening k.all (g.D.Desk.meaning c.self.inside.desk) (record { segment = c.self.inside.segment; entries = c.self.inside.entries }) c.self.inside.closed) (sym same.0) c.self.invariant.3 in
    let next : c.replace.new.dest ≡ suc c.self.inside.segment = search rules in
    let still : c.self.inside.closed ≡ false = search rules in
    subst (λ (h : List (ℕ × Event)). IsLawful g.J.Run.opening h (g.D.Desk.meaning c.self.inside.desk)) (ap (λ k. k.all) (sym added.keeper))
    (counted_rotated _ _ _ _ _ number c.replace.new.dest counted still next).lawful

pub returns-clause-rotates : goal.returns-clause-rotates
returns-clause-rotates g c =
    let same = c.compare-member.ensures.same in
    let added = c.add-member.ensures in
    let number = c.compare-member.result.number in
    let meaning = g.D.Desk.meaning c.self.inside.desk in
    let all = c.self.inside.keeper.all in
    let lawful = c.self.invariant.3.lawful in
    let ended : c.replace.result ≡ c.self.inside.segment = search rules in
    let calls : c.replace-2.result ≡ c.self.inside.entries = search rules in
    let still : c.self.inside.closed ≡ false = search rules in
    let numbered : c.self.inside.segment < last_segment = search (rules, arith) in
    let mine : number ≡ c.args.number = ap (λ m. m.number) same.1 ∙ sym c.requires.member.1 in
    let step = step_rotated g.J.Run.opening meaning all _ c.args.number c.self.inside.seats (record { number = c.replace.result; entries = c.replace-2.result }) lawful c.self.invariant.3.stands (c.self.invariant.3.stopped ∙ still) numbered
    (λ i. record { number = ended i; entries = calls i }) in
    let later : all ++ (c.args.number, events.Rotated) ∷ [] ≡ c.add-member.new.keeper.all = sym (ap (λ k. k.all) added.keeper ∙ (λ i. (same.0 i).all ++ (mine i, events.Rotated) ∷ [])) in
    rw (← c.self.view_is)
    (subst (λ (h : List (ℕ × Event)). IsEnded g.J.Run.opening (record { history = all; seats = c.self.inside.seats; meaning = meaning }) c.args.number (record { number = c.replace.result; entries = c.replace-2.result }) (record { history = h; seats = c.self.inside.seats; meaning = meaning })) later step)

pub returns-clause-rotated : goal.returns-clause-rotated
returns-clause-rotated g c =
    let same = c.compare-member.ensures.same in
    let added = c.add-member.ensures in
    let number = c.compare-member.result.number in
    let seen = c.args.member.seen in
    let counted = subst (λ (k : Keeping Event). IsCounted g.J.Run.opening k.all (g.D.Desk.meaning c.self.inside.desk) (record { segment = c.self.inside.segment; entries = c.self.inside.entries }) c.self.inside.closed) (sym same.0) c.self.invariant.3 in
    let knows : Knows c.compare-member.new.keeper.all number seen = subst (λ (x : List (ℕ × Event) × ℕ). Knows x.0 x.1 seen) (λ i. ((sym same.0 i).all, (sym same.1 i).number)) c.compare-member.ensures.knows in
    let ended : c.replace.result ≡ c.self.inside.segment = search rules in
    let calls : c.replace-2.result ≡ c.self.inside.entries = search rules in
    let still : c.self.inside.closed ≡ false = search rules in
    let goes_on = counted.stopped ∙ still in
    let numbered : c.self.inside.segment < last_segment = search (rules, arith) in
    let rotated = made_rotated _ _ _ _ number seen (record { number = c.replace.result; entries = c.replace-2.result }) counted.lawful counted.stands goes_on numbered knows (λ i. record { number = ended i; entries = calls i }) in
    let was : ◌≡◌ {A = Seated} (record { number = number; seen = seen }) (record { number = c.args.member.number; seen = seen }) = (λ i. record { number = (same.1 i).number; seen = seen }) in
    let count = ap (λ m. m.number) added.member in
    let all = ap (λ m. m.seen) added.member ∙ ap (λ k. k.all) added.keeper in
    subst (λ (x : Seated × Seated). IsRotated g.J.Run.opening x.0 (record { number = c.replace.result; entries = c.replace-2.result }) x.1)
    (λ i. (was i, record { number = sym count i; seen = sym all i })) rotated

pub returns-then-self-clause-err : goal.returns-then-self-clause-err
returns-then-self-clause-err g c =
    let same = c.compare-member.ensures.same in
    caught_up_as c.self.inside.keeper c.compare-member.new.keeper c.args.member c.compare-member.result c.catch_up.result c.compare-member.ensures.knows same.0 same.1 c.catch_up.ensures.member

pub returns-in_default-clause-err : goal.returns-in_default-clause-err
returns-in_default-clause-err g c =
    let same = c.compare-member.ensures.same in
    caught_up_as c.self.inside.keeper c.compare-member.new.keeper c.args.member c.compare-member.result c.catch_up-in_default.result c.compare-member.ensures.knows same.0 same.1 c.catch_up-in_default.ensures.member
