use Rattle.std.proofs.Common.{List, ℕ, ◌++◌, Bool, ap, ◌∙◌}
use Rattle.tac_conn.specs.declared.reply.Reply.{Reply as ReplyValue}
use Rattle.tac_conn.specs.Packet.{sent}
use Rattle.tac_conn.specs.Reply.{packet_of}
use Rattle.tac_server.proofs.TurningFacts.{goes_reply, goes_answer, goes_silent, goes_need, goes_close}
use Rattle.tac_server.proofs.turning.take_turn.Goals as goal

pub answer_to-requires-clause-pending : goal.answer_to-requires-clause-pending
answer_to-requires-clause-pending g c = rw (c.in-Packet.is, c.in-Asks.is) at c.in_ok-received.ensures.waits

pub returns-in-Reply-clause-goes : goal.returns-in-Reply-clause-goes
returns-in-Reply-clause-goes g c = λ bytes taken ready s.
    let next = c.in_ok-received.ensures in
    rw c.after_reply.ensures
    (goes_reply c.args.door.now bytes taken (g.D.Desk.meaning c.args.desk.now) c.args.out.now.items c.add.new.out.items c.next.new.self c.in-Packet.received c.in-Reply.reply c.in-Reply.closes
    (rw (c.in-Packet.is, c.in-Reply.is) at (next.turn bytes taken ready s))
    (c.add.ensures.bytes ∙ ap (λ (l : List ℕ). l ++ sent c.args.door.now (packet_of c.in-Reply.reply)) c.in_ok-reserve.ensures.items) c.add.ensures.whole
    (rw (c.in-Packet.is, c.in-Reply.is) at next.closed) (rw (c.in-Packet.is, c.in-Reply.is) at (next.pending ready)) (rw c.in-Packet.is at (next.stands bytes taken ready s)))

pub returns-in_ok-reply-in-Asks-clause-goes : goal.returns-in_ok-reply-in-Asks-clause-goes
returns-in_ok-reply-in-Asks-clause-goes g c = λ bytes taken ready s.
    let next = c.in_ok-received.ensures in
    let told = c.in_ok-reply-in-Asks.ensures in
    let stands = rw c.in-Packet.is at (next.stands bytes taken ready s) in
    rw c.after_reply-in-Asks.ensures
    (goes_answer c.args.door.now bytes taken (g.D.Desk.meaning c.args.desk.now) (g.D.Desk.meaning c.answer_to.new.desk) c.args.out.now.items c.add-in-Asks.new.out.items c.answer_to.new.stream
    c.in-Packet.received c.in-Asks.ask c.in-Asks.slot c.in_ok-reply-in-Asks.reply c.in_ok-reply-in-Asks.closes
    (rw (c.in-Packet.is, c.in-Asks.is) at (next.turn bytes taken ready s))
    told.desk (ap (λ (p : ReplyValue × Bool). p.0) told.reply) (ap (λ (p : ReplyValue × Bool). p.1) told.reply)
    (c.add-in-Asks.ensures.bytes ∙ ap (λ (l : List ℕ). l ++ sent c.args.door.now (packet_of c.in_ok-reply-in-Asks.reply)) c.in_ok-reserve.ensures.items) c.add-in-Asks.ensures.whole
    (told.closed (rw (c.in-Packet.is, c.in-Asks.is) at next.closed)) told.pending (told.stands c.args.door.now bytes _ stands))

pub returns-in-Silent-clause-goes : goal.returns-in-Silent-clause-goes
returns-in-Silent-clause-goes g c = λ bytes taken ready s.
    let next = c.in_ok-received.ensures in
    goes_silent c.args.door.now bytes taken (g.D.Desk.meaning c.args.desk.now) c.args.out.now.items c.reserve.new.self.items c.next.new.self c.in-Packet.received
    (rw (c.in-Packet.is, c.in-Silent.is) at (next.turn bytes taken ready s)) c.in_ok-reserve.ensures.items
    (rw (c.in-Packet.is, c.in-Silent.is) at next.closed) (rw (c.in-Packet.is, c.in-Silent.is) at (next.pending ready)) (rw c.in-Packet.is at (next.stands bytes taken ready s))

pub returns-in-Close-step-clause-goes : goal.returns-in-Close-step-clause-goes
returns-in-Close-step-clause-goes g c = λ bytes taken ready s.
    goes_close c.args.door.now bytes taken (g.D.Desk.meaning c.args.desk.now) c.args.out.now.items c.reserve.new.self.items c.next.new.self _
    (rw c.in-Packet.is at (c.in_ok-received.ensures.turn bytes taken ready s)) c.in-Close-step.is c.in_ok-reserve.ensures.items

pub returns-in-Need-clause-goes : goal.returns-in-Need-clause-goes
returns-in-Need-clause-goes g c = λ bytes taken ready s.
    let next = c.in_ok-received.ensures in
    goes_need c.args.door.now bytes taken (g.D.Desk.meaning c.args.desk.now) c.args.out.now.items c.reserve.new.self.items c.next.new.self
    (rw c.in-Need.is at (next.turn bytes taken ready s)) c.in_ok-reserve.ensures.items
    (rw c.in-Need.is at next.closed) (rw c.in-Need.is at (next.pending ready)) (rw c.in-Need.is at (next.stands bytes taken ready s))

pub returns-in-Refused-clause-goes : goal.returns-in-Refused-clause-goes
returns-in-Refused-clause-goes g c = λ bytes taken ready s.
    goes_close c.args.door.now bytes taken (g.D.Desk.meaning c.args.desk.now) c.args.out.now.items c.reserve.new.self.items c.next.new.self _
    (rw c.in-Refused.is at (c.in_ok-received.ensures.turn bytes taken ready s)) tt c.in_ok-reserve.ensures.items
