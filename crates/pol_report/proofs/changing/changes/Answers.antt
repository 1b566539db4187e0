use Rattle.pol_report.proofs.changing.changes.Goals as goal

pub returns-clause-only : goal.returns-clause-only
returns-clause-only c = rw c.in_ok-policies.ensures at c.list_changes.ensures.only
