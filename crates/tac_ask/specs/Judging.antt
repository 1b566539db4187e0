-- What a client takes from a packet that comes after one that it sent.
use Rattle.std.specs.Prelude.{ℕ, Option, Some, None, is_some, Result, Ok, Err}
use Rattle.std.specs.Prelude.{if◌then◌else◌}
use Rattle.tac_wire.specs.Door.{opened}
use Rattle.tac_wire.specs.declared.body.BodyFault.{BodyFault}
use Rattle.tac_wire.specs.declared.body.BodyFault.TheVariants.{Short, LengthSum, TooLong}
use Rattle.tac_wire.specs.declared.body.BodyFault.TheVariants as bodies
use Rattle.tac_wire.specs.declared.door.Door.{Door}
use Rattle.tac_wire.specs.declared.frame.Frame.{Frame}
use Rattle.tac_wire.specs.declared.header.Header.{Header}
use Rattle.tac_ask.specs.declared.fault.AskFault.{AskFault}
use Rattle.tac_ask.specs.declared.fault.AskFault.TheVariants.{BadBody, BadStatus, Memory}
use Rattle.tac_ask.specs.declared.reply.ReplyFields.{ReplyFields}
use Rattle.tac_ask.specs.Packet.{mismatch, clear_fault}
use Rattle.tac_ask.specs.Reply.{reply_of}
use Rattle.tac_ask.specs.Status.{status_name}

-- a body that is none of a reply is told by one fault, whatever its own is
abbrev pub body_fault : BodyFault → AskFault
body_fault Short = BadBody
body_fault LengthSum = BadBody
body_fault TooLong = BadBody
body_fault bodies.Memory = Memory

-- a reply has one of the standard's statuses
abbrev pub with_status : ℕ → ReplyFields → Result ReplyFields AskFault
with_status kind reply =
    if is_some (status_name kind reply.status) then Ok reply else Err BadStatus

abbrev pub body_judged : ℕ → Result ReplyFields BodyFault → Result ReplyFields AskFault
body_judged kind (Ok reply) = with_status kind reply
body_judged kind (Err fault) = Err (body_fault fault)

abbrev pub unless_fault : Option AskFault → Result ReplyFields AskFault
    → Result ReplyFields AskFault
unless_fault (Some fault) reply = Err fault
unless_fault None reply = reply

-- the reply that a packet is to what was sent with this header, or the first fault
abbrev pub reply_to : Door → Header → Frame → Result ReplyFields AskFault
reply_to door sent frame =
    unless_fault (mismatch sent frame.header)
    (unless_fault (clear_fault door frame.header)
    (body_judged frame.header.kind.0
    (reply_of frame.header.kind.0 (opened door frame.header frame.body))))
