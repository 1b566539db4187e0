use Rattle.std.proofs.Common.{sym}
use Rattle.tac_desks.specs.Kept.{meaning_of}
use Rattle.tac_desks.proofs.plain.PlainDeskDesk.edit_all.Goals as goal

pub returns-clause-found : goal.returns-clause-found
returns-clause-found c =
    rw (← c.self.view_is, c.into_policy.ensures.policy) (c.in_ok-changes.ensures.found (meaning_of c.self.inside.policy c.self.inside.book) (sym c.in_ok-live.ensures))

pub returns-clause-only : goal.returns-clause-only
returns-clause-only c =
    rw (← c.self.view_is, c.into_policy.ensures.policy) (c.in_ok-changes.ensures.only (meaning_of c.self.inside.policy c.self.inside.book) (sym c.in_ok-live.ensures))
