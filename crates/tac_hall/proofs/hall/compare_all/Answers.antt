use Rattle.std.proofs.Common.{◌≡◌, List, [], ◌∷◌, map, refl, rules, ap, sym, ◌∙◌, subst}
use Rattle.std.proofs.lemmas.List.Elements.{All-push, All-same}
use Rattle.std.proofs.lemmas.Iterator.Adapters.{YieldsList-from_vec}
use Rattle.std.proofs.lemmas.Iterator.Consumers.{YieldsList-end}
use Rattle.tac_roll.specs.Roll.{Knows}
use Rattle.tac_hall.specs.Seat.{Seated}
use Rattle.tac_hall.proofs.hall.compare_all.Goals as goal

pub seats-preserved : goal.seats-preserved
seats-preserved g c =
    let i = c.seats.invariant in
    let history = ap (λ v. v.history) i.0 in (
      c.compare.ensures.same ∙ i.0,
      All-push (λ (seat : Seated). Knows c.args.room.now.history seat.number seat.seen) c.seats.yielded c.in-Some.seat i.1
          (subst (λ h. Knows h c.in-Some.seat.number c.in-Some.seat.seen) history c.compare.ensures.knows),
    )

map_itself : {A : Type 0} (xs : List A) → map (λ x. x) xs ≡ xs
map_itself [] = refl
map_itself (x ∷ xs) = ap (λ ys. x ∷ ys) (map_itself xs)

pub returns-clause-know : goal.returns-clause-know
returns-clause-know g c =
    let came = c.into_iter-seat-iterator.ensures.into_iter_gives in
    let t = YieldsList-end (YieldsList-from_vec {s = c.into_iter-seat-iterator.result} c.args.seats.items (search rules) (search rules)) c.seats.yielded c.seats.seat-iterator c.seats.yielded_by c.next.result c.next.new.self c.in-None.is c.next.ensures.steps in
    All-same (λ (seat : Seated). Knows c.args.room.now.history seat.number seat.seen) c.args.seats.items c.seats.yielded (sym t.0 ∙ map_itself c.seats.yielded) c.seats.invariant.1
