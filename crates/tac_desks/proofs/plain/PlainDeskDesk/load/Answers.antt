use Rattle.std.proofs.Common.{sym}
use Rattle.std.proofs.lemmas.Result.{err_from_is_err_and}
use Rattle.tac_desks.specs.Kept.{meaning_of}
use Rattle.tac_desks.proofs.plain.PlainDeskDesk.load.Goals as goal

pub returns-in_err-changes-clause-found : goal.returns-in_err-changes-clause-found
returns-in_err-changes-clause-found c =
    let p = err_from_is_err_and c.from_residual-in_err-changes.result c.from_residual-in_err-changes.ensures.1 in
    let before = meaning_of c.self.inside.policy c.self.inside.book in
    rw (p.1, p.2, ← c.self.view_is) (rw (c.in_err-changes.ensures.err, c.in_ok-live.ensures) at (c.in_err-changes.ensures.found before (sym c.in_ok-live.ensures)))

pub returns-in_err-changes-clause-only : goal.returns-in_err-changes-clause-only
returns-in_err-changes-clause-only c =
    let p = err_from_is_err_and c.from_residual-in_err-changes.result c.from_residual-in_err-changes.ensures.1 in
    let before = meaning_of c.self.inside.policy c.self.inside.book in
    rw (p.1, p.2, ← c.self.view_is) (rw (c.in_err-changes.ensures.err, c.in_ok-live.ensures) at (c.in_err-changes.ensures.only before (sym c.in_ok-live.ensures)))

pub returns-clause-found : goal.returns-clause-found
returns-clause-found c =
    rw (← c.self.view_is, c.into_policy.ensures.policy) (c.in_ok-changes.ensures.found (meaning_of c.self.inside.policy c.self.inside.book) (sym c.in_ok-live.ensures))

pub returns-clause-only : goal.returns-clause-only
returns-clause-only c =
    rw (← c.self.view_is, c.into_policy.ensures.policy) (c.in_ok-changes.ensures.only (meaning_of c.self.inside.policy c.self.inside.book) (sym c.in_ok-live.ensures))
