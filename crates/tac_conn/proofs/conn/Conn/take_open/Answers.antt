use Rattle.std.proofs.Common.{ap}
use Rattle.tac_conn.specs.declared.outcome.Outcome.{Outcome}
use Rattle.tac_conn.specs.declared.reading.Reading.{Reading}
use Rattle.tac_conn.proofs.StandingFacts.{open_is_read}
use Rattle.tac_conn.proofs.conn.Conn.take_open.Goals as goal

pub returns-in-Err-clause-memory : goal.returns-in-Err-clause-memory
returns-in-Err-clause-memory c =
    open_is_read c.args.self.now c.args.packet.now c.in_ok-reading.outcome (ap (λ (taken : Reading × Outcome). taken.1) c.in_ok-reading.ensures.taken) c.in-Err.ensures.memory
