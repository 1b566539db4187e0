use Rattle.std.proofs.lemmas.Result.{err_from_is_err_and}
use Rattle.tac_desks.proofs.Edits.{accepted_loaded, refused_loaded, except_built}
use Rattle.tac_desks.proofs.editing.load.Goals as goal

pub returns-in_err-prepared-clause-only : goal.returns-in_err-prepared-clause-only
returns-in_err-prepared-clause-only c before is =
    let p = err_from_is_err_and c.from_residual-in_err-prepared.result c.from_residual-in_err-prepared.ensures.1 in
    let fault = c.in_err-prepared.field-0.0 in
    let same = c.in_ok-copy.ensures.same in
    rw (p.1, p.2, ← is) (except_built fault (λ only. refused_loaded before c.args.policy.now fault (rw is only)) (rw same at (c.in_err-prepared.ensures.only)))

pub returns-clause-only : goal.returns-clause-only
returns-clause-only c before is =
    let made = c.in_ok-prepared.ensures in
    let same = c.in_ok-copy.ensures.same in
    rw c.in_ok-shared.ensures.taken
    (accepted_loaded before c.args.policy.now c.in_ok-prepared.prepared c.in_ok-shared.shared (rw is (rw same at (made.found))) (rw is (rw same at (made.only))) (rw is c.in_ok-shared.ensures.only))
