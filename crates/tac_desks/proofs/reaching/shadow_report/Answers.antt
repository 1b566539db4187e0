use Rattle.tac_desks.proofs.reaching.shadow_report.Goals as goal

pub returns-clause-only : goal.returns-clause-only
returns-clause-only c = rw (← c.in_ok-live.ensures) c.shadow_report_of.ensures.only
