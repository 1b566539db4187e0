use Rattle.tac_server.proofs.RunFacts.{tells_line}
use Rattle.tac_server.proofs.events.Driver.tell.Goals as goal

pub returns-in-Ok : goal.returns-in-Ok
returns-in-Ok g c = λ number state has.
    tells_line g.D.Desk.meaning number c.args.line.now _ state _ _ (c.in-Ok.ensures.answered state has) (c.in-Ok.ensures.only state has)
