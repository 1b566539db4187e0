use Rattle.std.proofs.Common.{◌≡◌, List, [], ◌∷◌, ◌++◌, map, rules, refl, ap, sym, ◌∙◌, append_assoc}
use Rattle.std.proofs.lemmas.Iterator.Adapters.{YieldsList-from_vec}
use Rattle.std.proofs.lemmas.Iterator.Consumers.{YieldsList-end}
use Rattle.std.proofs.lemmas.Result.{err_from_is_err_and}
use Rattle.tac_hall.specs.Seat.{Seated}
use Rattle.tac_net.proofs.ending.add_seats.Goals as goal

map_itself : {A : Type 0} (xs : List A) → map (λ x. x) xs ≡ xs
map_itself [] = refl
map_itself (x ∷ xs) = ap (λ ys. x ∷ ys) (map_itself xs)

pub workers-preserved : goal.workers-preserved
workers-preserved g c =
    c.in_ok-push.ensures.items ∙ ap (λ (l : List Seated). l ++ c.in-Some.seat ∷ []) c.workers.invariant
    ∙ append_assoc c.args.seats.now.items c.workers.yielded (c.in-Some.seat ∷ [])

pub returns-in_err-push : goal.returns-in_err-push
returns-in_err-push g c = let p = err_from_is_err_and c.from_residual.result c.from_residual.ensures.1 in rw p.1 tt

pub returns : goal.returns
returns g c =
    let came = YieldsList-end (YieldsList-from_vec {s = c.into_iter-seat-iterator.result} c.args.served.items (search rules) (search rules)) c.workers.yielded c.workers.seat-iterator c.workers.yielded_by c.next.result c.next.new.self c.in-None.is c.next.ensures.steps in
    c.workers.invariant ∙ ap (λ (l : List Seated). c.args.seats.now.items ++ l) (sym (map_itself c.workers.yielded) ∙ came.0)
