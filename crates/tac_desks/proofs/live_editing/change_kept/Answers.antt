use Rattle.std.proofs.lemmas.Result.{err_from_is_err_and}
use Rattle.pol_edit.specs.Batches.{ran_out}
use Rattle.tac_desks.specs.Kept.{meaning_of}
use Rattle.tac_desks.proofs.Edits.{accepted_only, refused_only, except_so}
use Rattle.tac_desks.proofs.Rising.{risen}
use Rattle.tac_desks.proofs.live_editing.change_kept.Goals as goal

pub returns-in_err-prepared-clause-only : goal.returns-in_err-prepared-clause-only
returns-in_err-prepared-clause-only c =
    let p = err_from_is_err_and c.from_residual.result c.from_residual.ensures.1 in
    let before = meaning_of c.args.live.now c.args.book.now in
    let fault = c.in_err-prepared.field-0.0 in
    rw (p.1, p.2) (except_so (ran_out fault) (refused_only before c.args.edits.now fault) c.in_err-prepared.ensures.only)

pub returns-clause-only : goal.returns-clause-only
returns-clause-only c =
    let before = meaning_of c.args.live.now c.args.book.now in
    let made = c.in_ok-prepared.ensures in
    rw c.in_ok-shared.ensures.meaning
    (accepted_only before c.args.edits.now c.in_ok-prepared.prepared c.in_ok-shared.shared made.found made.only c.in_ok-shared.ensures.only)

pub returns-in_err-shared-clause-kept : goal.returns-in_err-shared-clause-kept
returns-in_err-shared-clause-kept c =
    risen c.from_residual-in_err-shared.result _ c.args.meter.now.total c.prepare_all.new.meter.total c.args.meter.now.fits c.in_ok-prepared.ensures.rises
