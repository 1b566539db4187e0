use Rattle.std.proofs.Common.{refl}
use Rattle.tac_conn.proofs.StandingFacts.{stands_new}
use Rattle.tac_conn.proofs.conn.Conn.new.Goals as goal

pub returns-clause-stands : goal.returns-clause-stands
returns-clause-stands c = stands_new _ refl refl c.new.ensures refl
