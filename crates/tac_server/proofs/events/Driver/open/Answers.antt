use Rattle.std.proofs.Common.{ℕ, Err, subst}
use Rattle.tac_server.specs.Kept.{IsOpened}
use Rattle.tac_server.proofs.RunFacts.{opens_line, not_opened}
use Rattle.tac_server.proofs.events.Driver.open.Goals as goal

pub returns-in-Ok : goal.returns-in-Ok
returns-in-Ok g c = λ state text has.
    opens_line g.D.Desk.meaning c.args.line c.args.number c.open.new.self state text (rw c.from.ensures at (c.in-Ok.ensures.step state has))

pub returns-in-Err : goal.returns-in-Err
returns-in-Err g c = λ state text has.
    not_opened g.D.Desk.meaning c.args.line c.args.number c.open.new.self state text c.in-Err.fault c.stop_at.result c.stop_at.ensures
    (subst (λ (n : ℕ). IsOpened g.D.Desk.meaning c.open.new.self n state (Err c.in-Err.fault)) c.from.ensures (c.in-Err.ensures.step state has))
