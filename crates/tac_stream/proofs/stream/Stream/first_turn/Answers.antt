use Rattle.std.proofs.Common.{refl, sym, ◌∙◌}
use Rattle.tac_stream.proofs.StreamFacts.{on_err, packet_left, need_turn, refused_turn, ended_turn, packet_next, packet_stands, packet_falls}
use Rattle.tac_stream.proofs.stream.Stream.first_turn.Goals as goal

pub returns-in_err-frame-clause-memory : goal.returns-in_err-frame-clause-memory
returns-in_err-frame-clause-memory c = λ bytes taken s.
    on_err c.from_residual.result _ (packet_left c.args.door.now c.in_err-frame.ensures.items c.args.self.now bytes taken s _ refl c.in_err-frame.ensures.memory)

pub returns-in-Need-clause-turn : goal.returns-in-Need-clause-turn
returns-in-Need-clause-turn c = λ bytes taken s.
    need_turn c.args.door.now c.in_ok-frame.ensures.items c.args.self.now bytes taken s (sym c.in-Need.is ∙ c.in_ok-frame.ensures.told)

pub returns-in-Fault-clause-turn : goal.returns-in-Fault-clause-turn
returns-in-Fault-clause-turn c = λ bytes taken s.
    refused_turn c.args.door.now c.in_ok-frame.ensures.items c.args.self.now bytes taken s c.in-Fault.refused (sym c.in-Fault.is ∙ c.in_ok-frame.ensures.told)

pub returns-in-Ended-clause-turn : goal.returns-in-Ended-clause-turn
returns-in-Ended-clause-turn c = λ bytes taken s.
    ended_turn c.args.door.now c.in_ok-frame.ensures.items c.args.self.now bytes taken s (sym c.in-Ended.is ∙ c.in_ok-frame.ensures.told)

pub returns-in-Ok-clause-turn : goal.returns-in-Ok-clause-turn
returns-in-Ok-clause-turn c = λ bytes taken s.
    packet_next c.args.door.now c.in_ok-frame.ensures.items c.args.self.now bytes taken s c.in-Packet.frame (sym c.in-Packet.is ∙ c.in_ok-frame.ensures.told)
    c.in-Ok.received c.in-Ok.step (c.in-Ok.ensures.received _ s.conn) (c.in-Ok.ensures.step _ s.conn)

pub returns-in-Ok-clause-stands : goal.returns-in-Ok-clause-stands
returns-in-Ok-clause-stands c = λ bytes taken s.
    packet_stands c.args.door.now c.in_ok-frame.ensures.items c.args.self.now bytes taken s c.in-Packet.frame (sym c.in-Packet.is ∙ c.in_ok-frame.ensures.told)
    _ c.in_ok-frame.ensures.left (c.in-Ok.ensures.stands _ s.conn)

pub returns-in-Ok-clause-shorter : goal.returns-in-Ok-clause-shorter
returns-in-Ok-clause-shorter c =
    packet_falls c.args.door.now c.args.self.now.framer _ c.in-Packet.frame c.in_ok-frame.field-0 c.in-Packet.is c.in_ok-frame.ensures.told c.in_ok-frame.ensures.found
