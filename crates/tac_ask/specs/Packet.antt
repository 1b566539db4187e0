-- A packet as it is sent, and which packet is the reply to it (RFC 8907, sections 4.1 to 4.5).
use Rattle.std.specs.Prelude.{ℕ, ◌+◌, List, ◌++◌, length, not, ◌==◌, Option, Some, None}
use Rattle.std.specs.Prelude.{if◌then◌else◌}
use Rattle.tac_wire.specs.Header.{header_bytes}
use Rattle.tac_wire.specs.Door.{closed, marked, is_flagged}
use Rattle.tac_wire.specs.declared.door.Door.{Door}
use Rattle.tac_wire.specs.declared.door.Door.TheVariants.{Padded, Clear}
use Rattle.tac_wire.specs.declared.frame.FrameFault.{FrameFault}
use Rattle.tac_wire.specs.declared.frame.FrameFault.TheVariants as frames
use Rattle.tac_wire.specs.declared.header.Header.{Header}
use Rattle.tac_ask.specs.declared.fault.AskFault.{AskFault}
use Rattle.tac_ask.specs.declared.fault.AskFault.TheVariants.{OtherType, OtherSession, OutOfTurn}
use Rattle.tac_ask.specs.declared.fault.AskFault.TheVariants.{BadVersion, Unpadded, TooLong, NotClear}

-- the header that a body is sent with
abbrev pub header_for : Door → Header → List ℕ → Header
header_for door header body = marked door (record header { length = length body })

abbrev pub packet_bytes : Door → Header → List ℕ → List ℕ
packet_bytes door header body =
    header_bytes (header_for door header body) ++ closed door (header_for door header body) body

-- why a header is none of a reply to this one, if it is none: a reply has the type and the
-- session_id of what it answers, and the next seq_no
abbrev pub mismatch : Header → Header → Option AskFault
mismatch sent came =
    if not (came.kind.0 == sent.kind.0) then Some OtherType
    else if not (came.session == sent.session) then Some OtherSession
    else if not (came.seq == sent.seq + 1) then Some OutOfTurn else None

-- what is told of a header that no stream goes on after
abbrev pub header_fault : FrameFault → AskFault
header_fault frames.BadVersion = BadVersion
header_fault frames.Unencrypted = Unpadded
header_fault frames.TooLong = TooLong

-- in clear a packet has to say that it is
abbrev pub clear_fault : Door → Header → Option AskFault
clear_fault (Padded key) header = None
clear_fault Clear header = if is_flagged header.flags then None else Some NotClear
