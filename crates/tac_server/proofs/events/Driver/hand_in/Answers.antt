use Rattle.tac_server.proofs.ServerFacts.{unless_memory}
use Rattle.tac_server.proofs.events.Driver.hand_in.Goals as goal

pub returns-in-None : goal.returns-in-None
returns-in-None g c = λ state has.
    unless_memory g.D.Desk.meaning c.args.out.now.items c.feed_told.new.out.items c.feed_told.new.self c.args.conn c.args.bytes.now state c.feed_told.result (c.feed_told.ensures.heard state has)
