use Rattle.std.proofs.Common.{length}
use Rattle.tac_server.specs.Server.{State}
use Rattle.tac_server.specs.Kept.{HasState}
use Rattle.tac_server.specs.Running.{Steps}
use Rattle.tac_server.proofs.RunFacts.{Progress}
use Rattle.tac_server.proofs.events.run_events.Given as goal

abbrev pub invariant-events : goal.invariant-events
invariant-events g l =
    (state : State) → HasState g.D.Desk.meaning l.fn.server state →
    Progress g.D.Desk.meaning l.fn.out.items l.out.items l.driver.server l.lines.number l.lines.lines (Steps state l.fn.lines.number l.fn.lines.lines)

abbrev pub decreases-events : goal.decreases-events
decreases-events g l = length l.lines.lines
