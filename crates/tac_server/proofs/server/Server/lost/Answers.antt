use Rattle.std.proofs.Common.{None}
use Rattle.tac_wire.specs.declared.door.Door.TheVariants.{Padded}
use Rattle.tac_server.proofs.ServerFacts.{has_updated}
use Rattle.tac_server.proofs.CourseFacts.{run_lost}
use Rattle.tac_server.proofs.server.Server.lost.Goals as goal

pub returns-clause-course : goal.returns-clause-course
returns-clause-course g c =
    let old = c.args.self.now in
    run_lost g.D.Desk.meaning old _ c.args.conn (λ state has. record {
      key = has.key;
      desk = has.desk;
      connections = has_updated (Padded old.key) old.connections c.remove.new.self c.args.conn None None state.connections c.remove.ensures.updates.0 has.connections tt;
      batch = has.batch;
    })
