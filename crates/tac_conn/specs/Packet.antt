-- Packets with their bodies in clear, and as they are sent (RFC 8907, sections 4.1 and 4.5).
use Rattle.std.specs.Prelude.{◌≡◌, ℕ, ◌+◌, List, ◌++◌, length, take}
use Rattle.tac_wire.specs.declared.frame.Frame.{Frame}
use Rattle.tac_wire.specs.Header.{header_bytes, header_of}
use Rattle.tac_wire.specs.Door.{opened, closed, marked}
use Rattle.tac_wire.specs.declared.door.Door.{Door}
use Rattle.tac_conn.specs.declared.packet.Packet.{Packet}

-- the packet of a frame that came by this door: the pad is taken off, where there is one
abbrev pub clear : Door → Frame → Packet
clear door frame = record { header = frame.header; body = opened door frame.header frame.body }

-- the bytes that are sent of a packet: its header is marked, and the pad is put on its body, as the
-- door has it
abbrev pub sent : Door → Packet → List ℕ
sent door packet =
    let header = marked door packet.header in
    header_bytes header ++ closed door header packet.body

-- the bytes are one whole packet: its header says its length
abbrev pub IsWhole : List ℕ → Type 0
IsWhole bytes = 12 + (header_of (take 12 bytes)).length ≡ length bytes
