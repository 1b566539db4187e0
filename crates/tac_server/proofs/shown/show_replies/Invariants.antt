use Rattle.std.proofs.Common.{[], List, length}
use Rattle.tac_wire.specs.declared.door.Door.TheVariants.{Padded}
use Rattle.tac_conn.specs.declared.packet.Packet.{Packet}
use Rattle.tac_server.specs.Kept.{Sends}
use Rattle.tac_server.proofs.ShownFacts.{Progress}
use Rattle.tac_server.proofs.shown.show_replies.Given as goal

abbrev pub invariant-replies : goal.invariant-replies
invariant-replies l = (packets : List Packet) → Sends (Padded l.key) [] l.sent packets → Progress l.key l.number l.rest l.fn.out.items l.out.items packets

abbrev pub decreases-replies : goal.decreases-replies
decreases-replies l = length l.rest
