use Rattle.std.proofs.Common.{Err, ap, ◌∙◌}
use Rattle.tac_conn.specs.declared.ask.Ask.{Ask}
use Rattle.tac_conn.specs.Received.{with_ask}
use Rattle.tac_worker.proofs.TurnFacts.{turned_memory, turned_roomless, turned_need, not_shut, turned_reply, turned_answer, turned_refusal, turned_silent, turned_close, turned_bad_header}
use Rattle.tac_worker.specs.Noting.{noting}
use Rattle.tac_worker.proofs.NoteFacts.{notes_none}
use Rattle.tac_worker.proofs.turning.serve_turn.Goals as goal

pub returns-in-Err-clause-turned : goal.returns-in-Err-clause-turned
returns-in-Err-clause-turned g c = λ was bytes taken n ready s.
    turned_memory _ _ (notes_none g.C.Caller.rests g.met.C.Caller.rests_so) _ _ _ c.args.terms.now.door.now bytes taken (noting c.args.caller.now c.args.called.now) c.args.witness.now _ c.args.stream.now (Err c.from.result) c.from.ensures (rw c.in-Err.is at (n.memory bytes taken s))

pub returns-in_ok-room-in-Reply-clause-turned : goal.returns-in_ok-room-in-Reply-clause-turned
returns-in_ok-room-in-Reply-clause-turned g c = λ was bytes taken n ready s.
    turned_reply _ _ (notes_none g.C.Caller.rests g.met.C.Caller.rests_so) _ _ _ c.args.terms.now.door.now bytes taken (noting c.args.caller.now c.args.called.now) c.args.witness.now c.answer.new.witness _ _ c.args.stream.now c.in-Packet.received c.in-Reply.reply c.in-Reply.closes c.answer.result
    (rw (c.in-Ok.is, c.in-Packet.is, c.in-Reply.is) at (n.found bytes taken ready s)) c.answer.ensures
    (rw (c.in-Ok.is, c.in-Packet.is, c.in-Reply.is) at n.closed) (rw (c.in-Ok.is, c.in-Packet.is, c.in-Reply.is) at (n.pending ready)) (rw (c.in-Ok.is, c.in-Packet.is) at (n.stands bytes taken ready s))

pub returns-in_err-room-in-Reply-clause-turned : goal.returns-in_err-room-in-Reply-clause-turned
returns-in_err-room-in-Reply-clause-turned g c = λ was bytes taken n ready s.
    turned_roomless _ _ (notes_none g.C.Caller.rests g.met.C.Caller.rests_so) _ _ _ c.args.terms.now.door.now bytes taken (noting c.args.caller.now c.args.called.now) c.args.witness.now _ c.args.stream.now c.in-Packet.received _ c.from_residual.result
    (rw (c.in-Ok.is, c.in-Packet.is, c.in-Reply.is) at (n.found bytes taken ready s)) c.from_residual.ensures.1

pub returns-in_err-told-in-Asks-clause-turned : goal.returns-in_err-told-in-Asks-clause-turned
returns-in_err-told-in-Asks-clause-turned g c = λ was bytes taken n ready s.
    turned_refusal _ _ (notes_none g.C.Caller.rests g.met.C.Caller.rests_so) _ _ _ c.args.terms.now.door.now bytes taken (noting c.args.caller.now c.args.called.now) (noting c.ask_by.new.caller c.ask_by.new.called) c.args.witness.now _ c.args.stream.now c.in-Packet.received c.in-Asks.ask c.in-Asks.slot c.from_residual-in_err-told-in-Asks.result c.in_err-told-in-Asks.field-0.0
    (rw (c.in-Ok.is, c.in-Packet.is, c.in-Asks.is) at (n.found bytes taken ready s)) (c.in_err-told-in-Asks.ensures.err, c.in_err-told-in-Asks.ensures.called) c.in_err-told-in-Asks.ensures.uncalled c.from_residual-in_err-told-in-Asks.ensures.1

pub returns-in_ok-told-in-Asks-clause-turned : goal.returns-in_ok-told-in-Asks-clause-turned
returns-in_ok-told-in-Asks-clause-turned g c = λ was bytes taken n ready s.
    let made = c.in_ok-told-in-Asks.ensures.makes in
    let given = c.give-given.ensures in
    turned_answer _ _ (notes_none g.C.Caller.rests g.met.C.Caller.rests_so) _ _ _ c.args.terms.now.door.now bytes taken (noting c.args.caller.now c.args.called.now) (noting c.ask_by.new.caller c.ask_by.new.called) c.args.witness.now c.answer-in-Asks.new.witness _ _ c.give-given.new.self c.in-Packet.received c.with_ask-whole.result c.in-Asks.ask c.in-Asks.slot made.0 made.1 c.in_ok-told-in-Asks.told
    c.give-given.result c.answer-in-Asks.result
    (rw (c.in-Ok.is, c.in-Packet.is, c.in-Asks.is) at (n.found bytes taken ready s))
    (c.with_ask-whole.ensures.with_ask ∙ ap (λ (ask : Ask). with_ask ask c.in-Packet.received) c.in_ok-told-in-Asks.ensures.same) (c.with_ask-whole.ensures.whole c.in-Asks.ask c.in-Asks.slot) (made.2, c.in_ok-told-in-Asks.ensures.called) given.reply c.answer-in-Asks.ensures
    (given.closed (rw (c.in-Ok.is, c.in-Packet.is, c.in-Asks.is) at n.closed)) given.pending (given.stands c.args.terms.now.door.now bytes _ (rw (c.in-Ok.is, c.in-Packet.is) at (n.stands bytes taken ready s)))

pub returns-in-Silent-clause-turned : goal.returns-in-Silent-clause-turned
returns-in-Silent-clause-turned g c = λ was bytes taken n ready s.
    turned_silent _ _ (notes_none g.C.Caller.rests g.met.C.Caller.rests_so) _ _ _ c.args.terms.now.door.now bytes taken (noting c.args.caller.now c.args.called.now) c.args.witness.now c.note.new.witness _ c.args.stream.now c.in-Packet.received c.note.result
    (rw (c.in-Ok.is, c.in-Packet.is, c.in-Silent.is) at (n.found bytes taken ready s)) c.note.ensures
    (rw (c.in-Ok.is, c.in-Packet.is, c.in-Silent.is) at n.closed) (rw (c.in-Ok.is, c.in-Packet.is, c.in-Silent.is) at (n.pending ready)) (rw (c.in-Ok.is, c.in-Packet.is) at (n.stands bytes taken ready s))

pub returns-in-Close-step-clause-turned : goal.returns-in-Close-step-clause-turned
returns-in-Close-step-clause-turned g c = λ was bytes taken n ready s.
    turned_close _ _ (notes_none g.C.Caller.rests g.met.C.Caller.rests_so) _ _ _ c.args.terms.now.door.now bytes taken (noting c.args.caller.now c.args.called.now) c.args.witness.now c.note-in-Close-step.new.witness _ c.args.stream.now c.in-Packet.received c.note-in-Close-step.result
    (rw (c.in-Ok.is, c.in-Packet.is, c.in-Close-step.is) at (n.found bytes taken ready s)) c.note-in-Close-step.ensures

pub returns-in-Refused-clause-turned : goal.returns-in-Refused-clause-turned
returns-in-Refused-clause-turned g c = λ was bytes taken n ready s.
    turned_bad_header _ _ (notes_none g.C.Caller.rests g.met.C.Caller.rests_so) _ _ _ c.args.terms.now.door.now bytes taken (noting c.args.caller.now c.args.called.now) c.args.witness.now c.note-in-Refused.new.witness _ c.args.stream.now c.in-Refused.header c.note-in-Refused.result
    (rw (c.in-Ok.is, c.in-Refused.is) at (n.found bytes taken ready s)) c.note-in-Refused.ensures

pub returns-in-Need-clause-turned : goal.returns-in-Need-clause-turned
returns-in-Need-clause-turned g c = λ was bytes taken n ready s.
    turned_need _ _ (notes_none g.C.Caller.rests g.met.C.Caller.rests_so) _ _ _ c.args.terms.now.door.now bytes taken (noting c.args.caller.now c.args.called.now) c.args.witness.now _ c.args.stream.now
    (rw (c.in-Ok.is, c.in-Need.is) at (n.found bytes taken ready s)) (rw (c.in-Ok.is, c.in-Need.is) at n.closed) (rw (c.in-Ok.is, c.in-Need.is) at (n.pending ready)) (rw (c.in-Ok.is, c.in-Need.is) at (n.stands bytes taken ready s))

pub returns-in-Close-clause-turned : goal.returns-in-Close-clause-turned
returns-in-Close-clause-turned g c = λ was bytes taken n ready s.
    absurd (not_shut c.args.terms.now.door.now bytes taken (rw (c.in-Ok.is, c.in-Close.is) at (n.found bytes taken ready s)))
