use Rattle.std.proofs.lemmas.Result.{err_from_is_err_and}
use Rattle.pol_edit.specs.Batches.{ran_out}
use Rattle.tac_desks.proofs.Edits.{accepted_only, refused_only, except_so}
use Rattle.tac_desks.proofs.editing.change.Goals as goal

pub returns-in_err-prepared-clause-only : goal.returns-in_err-prepared-clause-only
returns-in_err-prepared-clause-only c before same =
    let p = err_from_is_err_and c.from_residual.result c.from_residual.ensures.1 in
    let edits = c.args.edits.now in
    let fault = c.in_err-prepared.field-0.0 in
    rw (p.1, p.2, ← same) (except_so (ran_out fault) (λ only. refused_only before edits fault (rw same only)) c.in_err-prepared.ensures.only)

pub returns-clause-only : goal.returns-clause-only
returns-clause-only c before same =
    let made = c.in_ok-prepared.ensures in
    rw c.in_ok-shared.ensures.taken
    (accepted_only before c.args.edits.now c.in_ok-prepared.prepared c.in_ok-shared.shared (rw same made.found) (rw same made.only) (rw same c.in_ok-shared.ensures.only))
