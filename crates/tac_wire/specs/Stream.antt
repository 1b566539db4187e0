-- The stream of packets (RFC 8907, section 4): each a header of twelve bytes and a
-- body of the header's length. A stream is all its bytes: nothing here knows of the
-- pieces in which they come.
use Rattle.std.specs.Prelude.{◌≡◌, ℕ, zero, suc, ◌+◌, ◌^◌, ◌<◌, ◌==◌, Bool, not, ◌&&◌}
use Rattle.std.specs.Prelude.{nat_lt, nat_le, List, [], ◌∷◌, ◌++◌, length, take, drop, Option, Some}
use Rattle.std.specs.Prelude.{None, if◌then◌else◌}
use Rattle.tac_wire.specs.Header.{header_bytes, header_of, major_ver, minor_ver_one}
use Rattle.tac_wire.specs.Header.{major_version, minor_version}
use Rattle.tac_wire.specs.Door.{refuses}
use Rattle.tac_wire.specs.declared.door.Door.{Door}
use Rattle.tac_wire.specs.declared.header.Header.{Header}
use Rattle.tac_wire.specs.declared.frame.Frame.{Frame}
use Rattle.tac_wire.specs.declared.frame.FrameFault.{FrameFault}
use Rattle.tac_wire.specs.declared.frame.FrameFault.TheVariants.{BadVersion, Unencrypted, TooLong}
use Rattle.tac_wire.specs.declared.frame.RefusedHeader.{RefusedHeader}
use Rattle.tac_wire.specs.declared.framer.Next.{Next}
use Rattle.tac_wire.specs.declared.framer.Next.TheVariants.{Packet, Need, Fault, Ended}

-- ---- one item

-- the standard's major version, and minor version 0 or 1
abbrev pub is_served_version : ℕ → Bool
is_served_version version =
    major_version version == major_ver && nat_le (minor_version version) minor_ver_one

-- the longest body is that of an authentication CONTINUE: five bytes, and two fields of at
-- most 65535
abbrev pub max_body : ℕ
max_body = 131075

-- why a header is refused: the first fault that it has
abbrev pub header_fault : Door → Header → Option FrameFault
header_fault door header =
    if not (is_served_version header.version)
    then Some BadVersion
    else if refuses door header.flags
    then Some Unencrypted
    else if nat_lt max_body header.length then Some TooLong else None

-- how a packet is written
abbrev pub frame_bytes : Frame → List ℕ
frame_bytes frame = header_bytes frame.header ++ frame.body

-- what a stream begins with: a whole packet, with what follows it; a header that
-- is refused; or neither yet
pub data Item : Type 0 where
  whole : Frame → List ℕ → Item
  refused : RefusedHeader → Item
  unfinished : Item

-- the item of a header that is taken, and what follows it
abbrev pub packet_item : Header → List ℕ → Item
packet_item header rest =
    if nat_le header.length (length rest)
    then whole (record { header = header; body = take header.length rest })
    (drop header.length rest)
    else unfinished

-- the item of a header, with its fault if it has one, and what follows it
abbrev pub header_item : Option FrameFault → Header → List ℕ → Item
header_item (Some reason) header rest = refused (record { header = header; fault = reason })
header_item None header rest = packet_item header rest

-- a header is judged as soon as it is there, whatever there is of the body
unfoldable pub first_item : Door → List ℕ → Item
first_item door bytes =
    let header = header_of (take 12 bytes) in
    if nat_le 12 (length bytes)
    then header_item (header_fault door header) header (drop 12 bytes)
    else unfinished

-- a packet that is taken: no fault, a body of the header's length, and a session
-- number of four bytes
abbrev pub IsTaken : Door → Frame → Type 0
IsTaken door frame =
    (header_fault door frame.header ≡ None) × (length frame.body ≡ frame.header.length)
    × (frame.header.session < 2 ^ 32)

-- ---- a whole stream

-- what follows the last packet: bytes that are no whole item yet, or the header that was refused
pub data Tail : Type 0 where
  open_end : List ℕ → Tail
  fault : RefusedHeader → Tail

-- a stream, cut into packets
pub record Parts : Type 0 where
  pub packets : List Frame
  pub tail : Tail

-- no packet
abbrev pub only : Tail → Parts
only tail = record { packets = []; tail = tail }

-- these packets before the others
abbrev pub before_parts : List Frame → Parts → Parts
before_parts packets parts = record parts { packets = packets ++ parts.packets }

-- the parts of bytes that begin with this item, by the parts of what follows it
abbrev pub parts_by : (List ℕ → Parts) → Item → List ℕ → Parts
parts_by parts_of (whole frame rest) bytes = before_parts (frame ∷ []) (parts_of rest)
parts_by parts_of (refused header) bytes = only (fault header)
parts_by parts_of unfinished bytes = only (open_end bytes)

-- the parts, where at most so many packets are cut off
unfoldable pub cut_within : Door → ℕ → List ℕ → Parts
cut_within door zero bytes = only (open_end bytes)
cut_within door (suc most) bytes = parts_by (cut_within door most) (first_item door bytes) bytes

-- the parts of a stream: there are fewer packets than bytes, since each takes twelve bytes or more
unfoldable pub cut : Door → List ℕ → Parts
cut door bytes = cut_within door (length bytes) bytes

-- what more bytes make of the parts so far: an open end goes on, and a fault stays
abbrev pub resumed : Door → List Frame → Tail → List ℕ → Parts
resumed door packets (open_end bytes) more = before_parts packets (cut door (bytes ++ more))
resumed door packets (fault header) more = record { packets = packets; tail = fault header }

abbrev pub continued : Door → Parts → List ℕ → Parts
continued door parts more = resumed door parts.packets parts.tail more

-- ---- a framer

-- the part of the stream that no item was made of yet; or a fault was told, and nothing is kept
pub data Pending : Type 0 where
  unread : List ℕ → Pending
  ended : Pending

abbrev pub fed : Pending → List ℕ → Pending
fed (unread bytes) piece = unread (bytes ++ piece)
fed ended piece = ended

-- how an item is told
abbrev pub told : Item → Next
told (whole frame rest) = Packet frame
told (refused header) = Fault header
told unfinished = Need

abbrev pub next_of : Door → Pending → Next
next_of door (unread bytes) = told (first_item door bytes)
next_of door ended = Ended

-- a packet is told
abbrev pub IsPacket : Next → Type 0
IsPacket (Packet frame) = Unit {0}
IsPacket Need = ⊥
IsPacket (Fault header) = ⊥
IsPacket Ended = ⊥

-- what is left of these bytes once their first item was told
abbrev pub left_by : Item → List ℕ → Pending
left_by (whole frame rest) bytes = unread rest
left_by (refused header) bytes = ended
left_by unfinished bytes = unread bytes

abbrev pub left_of : Door → Pending → Pending
left_of door (unread bytes) = left_by (first_item door bytes) bytes
left_of door ended = ended

-- a packet that is told is written at the head of these bytes
abbrev pub BeginsWith : Next → List ℕ → Type 0
BeginsWith (Packet frame) bytes =
    (bytes ≡ frame_bytes frame ++ drop (12 + length frame.body) bytes)
    × (length frame.body ≡ frame.header.length)
BeginsWith Need bytes = Unit {0}
BeginsWith (Fault header) bytes = Unit {0}
BeginsWith Ended bytes = Unit {0}

-- these bytes in front of what is held
abbrev pub in_front : List ℕ → Pending → Pending
in_front bytes (unread others) = unread (bytes ++ others)
in_front bytes ended = ended

-- a packet that is told was written in front of what is left, and its body has the
-- length that its header says
abbrev pub WasInFront : Next → Pending → Pending → Type 0
WasInFront (Packet frame) before left =
    (before ≡ in_front (frame_bytes frame) left) × (length frame.body ≡ frame.header.length)
WasInFront Need before left = Unit {0}
WasInFront (Fault header) before left = Unit {0}
WasInFront Ended before left = Unit {0}
