use Rattle.std.proofs.lemmas.Result.{err_from_is_err_and}
use Rattle.tac_desks.specs.Kept.{meaning_of}
use Rattle.tac_desks.proofs.Edits.{accepted_loaded, refused_loaded, except_built}
use Rattle.tac_desks.proofs.Rising.{risen}
use Rattle.tac_desks.proofs.live_editing.load_kept.Goals as goal

pub returns-in_err-prepared-clause-only : goal.returns-in_err-prepared-clause-only
returns-in_err-prepared-clause-only c =
    let p = err_from_is_err_and c.from_residual-in_err-prepared.result c.from_residual-in_err-prepared.ensures.1 in
    let before = meaning_of c.args.live.now c.args.book.now in
    let fault = c.in_err-prepared.field-0.0 in
    rw (p.1, p.2) (except_built fault (refused_loaded before c.args.policy.now fault) (rw c.in_ok-copy.ensures.same at (c.in_err-prepared.ensures.only)))

pub returns-clause-only : goal.returns-clause-only
returns-clause-only c =
    let before = meaning_of c.args.live.now c.args.book.now in
    let made = c.in_ok-prepared.ensures in
    let same = c.in_ok-copy.ensures.same in
    rw c.in_ok-shared.ensures.meaning
    (accepted_loaded before c.args.policy.now c.in_ok-prepared.prepared c.in_ok-shared.shared (rw same at (made.found)) (rw same at (made.only)) c.in_ok-shared.ensures.only)

pub returns-in_err-shared-clause-kept : goal.returns-in_err-shared-clause-kept
returns-in_err-shared-clause-kept c =
    risen c.from_residual-in_err-shared.result _ c.args.meter.now.total c.prepare_policy.new.meter.total c.args.meter.now.fits c.in_ok-prepared.ensures.rises
