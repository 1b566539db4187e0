use Rattle.std.proofs.Common.{rules}
use Rattle.tac_desks.proofs.Asks.{passes_exactly}
use Rattle.tac_desks.proofs.live_desk.LiveDeskDesk.ask.Goals as goal

pub returns-in-Authenticate-clause-passes : goal.returns-in-Authenticate-clause-passes
returns-in-Authenticate-clause-passes c = passes_exactly c.args.self.now.meaning c.args.ask.now c.authentication.result (search rules)
