use Rattle.std.proofs.Common.{rules, Ok}
use Rattle.tac_server.proofs.CourseFacts.{run_told}
use Rattle.tac_server.proofs.server.Server.console.Goals as goal

pub returns-clause-course : goal.returns-clause-course
returns-clause-course g c =
    run_told g.D.Desk.meaning c.args.self.now c.tell.new.self c.args.out.now.items c.tell.new.out.items c.args.line.now (Ok tt)
    (search rules) (search rules)
