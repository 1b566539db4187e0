use Rattle.std.proofs.lemmas.Result.{err_from_is_err_and}
use Rattle.pol_live.specs.Refusing.{is_memory}
use Rattle.tac_desks.proofs.Edits.{except_so}
use Rattle.tac_desks.proofs.Opened.{opened_only, refused_only}
use Rattle.tac_desks.proofs.live_desk.LiveDesk.with_limit.Goals as goal

pub returns-in_err-live-clause-only : goal.returns-in_err-live-clause-only
returns-in_err-live-clause-only c =
    let p = err_from_is_err_and c.from_residual.result c.from_residual.ensures.1 in
    let fault = c.in_err-live.field-0.0 in
    rw (p.1, p.2) (except_so (is_memory fault) (refused_only c.args.policy c.args.limit fault) c.in_err-live.ensures.only)

pub returns-clause-only : goal.returns-clause-only
returns-clause-only c =
    let live = c.in_ok-live.ensures in
    rw (c.in_ok-desk.ensures.meaning, live.found.0) (opened_only c.args.policy c.args.limit c.in_ok-live.live live.found live.only)
