use Rattle.std.proofs.Common.{Ok, refl, sym}
use Rattle.tac_server.proofs.ServerFacts.{opens}
use Rattle.tac_server.proofs.CourseFacts.{run_opened}
use Rattle.tac_server.proofs.server.Server.open.Goals as goal

pub returns-clause-step : goal.returns-clause-step
returns-clause-step g c = λ state has.
    opens g.D.Desk.meaning c.args.self.now _ c.args.conn c.new-stream.result state has refl refl refl c.in_ok-insert.ensures.updates.0 (sym c.if-contains_key.ensures) c.new-stream.ensures.stands c.new-stream.ensures.ready

pub returns-clause-course : goal.returns-clause-course
returns-clause-course g c = run_opened g.D.Desk.meaning c.args.self.now _ c.args.conn (Ok tt) (returns-clause-step g c)
