use Rattle.tac_conn.proofs.Laws.{outcome_grants_nothing, open_sessions-alone}
use Rattle.tac_conn.proofs.conn.Conn.take.Goals as goal

pub returns-clause-ungranted : goal.returns-clause-ungranted
returns-clause-ungranted c = outcome_grants_nothing

pub returns-clause-alone : goal.returns-clause-alone
returns-clause-alone c = open_sessions-alone
