use Rattle.std.proofs.lemmas.Result.{err_from_is_err_and}
use Rattle.pol_live.specs.Refusing.{is_memory}
use Rattle.tac_desks.proofs.Edits.{except_so}
use Rattle.tac_desks.proofs.Opened.{opened_only, refused_only}
use Rattle.tac_desks.proofs.plain.PlainDesk.with_limit.Goals as goal

pub returns-in_err-live-clause-only : goal.returns-in_err-live-clause-only
returns-in_err-live-clause-only c =
    let p = err_from_is_err_and c.from_residual.result c.from_residual.ensures.1 in
    let fault = c.in_err-live.field-0.0 in
    rw (p.1, p.2) (except_so (is_memory fault) (refused_only c.args.policy c.args.limit fault) c.in_err-live.ensures.only)

pub returns-clause-only : goal.returns-clause-only
returns-clause-only c =
    let live = c.in_ok-live.ensures in
    rw (c.into_policy.ensures.policy, live.found.0, c.with_limit.ensures) (opened_only c.args.policy c.args.limit c.in_ok-live.live live.found live.only)
