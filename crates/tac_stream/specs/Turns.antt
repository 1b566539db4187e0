-- What is to be done next on a connection, by all bytes that came on it (RFC 8907, section 4).
use Rattle.std.specs.Prelude.{◌≡◌, ◌⊎◌, ℕ, List, [], ◌∷◌, map, reverse, take, drop, Bool, true}
use Rattle.std.specs.Prelude.{false, Option, None}
use Rattle.tac_wire.specs.declared.door.Door.{Door}
use Rattle.tac_wire.specs.declared.frame.Frame.{Frame}
use Rattle.tac_wire.specs.Stream.{Tail, open_end, fault, cut}
use Rattle.tac_conn.specs.declared.packet.Packet.{Packet}
use Rattle.tac_conn.specs.declared.ask.Slot.{Slot}
use Rattle.tac_conn.specs.declared.step.Step.{Step}
use Rattle.tac_conn.specs.declared.step.Step.TheVariants as steps
use Rattle.tac_conn.specs.Packet.{clear}
use Rattle.tac_conn.specs.History.{outcome}
use Rattle.tac_conn.specs.Standing as conns
use Rattle.tac_conn.specs.Received.{received, without_ask}
use Rattle.tac_stream.specs.declared.turn.Turn.{Turn}
use Rattle.tac_stream.specs.declared.turn.Turn.TheVariants as turns

-- the packets without their pads, the latest first, as the history of a connection has them
abbrev pub packets_of : Door → List Frame → List Packet
packets_of door frames = reverse (map (clear door) frames)

-- a header that is refused closes the connection
abbrev pub closed_by : Tail → Bool
closed_by (open_end bytes) = false
closed_by (fault refused) = true

-- what a packet was read as that came after these, and what is done for it; what its ask has is
-- there alone
abbrev pub packet_turn : List Packet → Packet → Turn
packet_turn earlier packet =
    let step = conns.step_of (outcome earlier packet) in
    turns.Packet (without_ask step (received earlier packet)) step

-- after the last packet: more bytes have to come first, unless the next header is refused
abbrev pub tail_turn : Tail → Turn
tail_turn (open_end bytes) = turns.Need
tail_turn (fault refused) = turns.Refused refused.header

-- what is done for the first of these packets, where others came earlier, the latest first; the
-- tail follows the packets
abbrev pub turn_by : Door → List Packet → List Frame → Tail → Turn
turn_by door earlier (frame ∷ frames) tail = packet_turn earlier (clear door frame)
turn_by door earlier [] tail = tail_turn tail

-- what is to be done where so many of the packets in these bytes were taken
unfoldable pub next_turn : Door → List ℕ → ℕ → Turn
next_turn door bytes taken =
    let parts = cut door bytes
    in turn_by door (packets_of door (take taken parts.packets))
    (drop taken parts.packets) parts.tail

-- the turn is the one for the first of the packets that are left
pub record IsForFirst (door : Door) (bytes : List ℕ) (taken : ℕ) (turn : Turn) : Type 0 where
  pub frame : Frame
  pub more : List Frame
  pub left : drop taken (cut door bytes).packets ≡ frame ∷ more
  pub is :
      turn
      ≡ packet_turn (packets_of door (take taken (cut door bytes).packets)) (clear door frame)

-- no packet is left, and the turn is the one for what follows them
pub record IsForTail (door : Door) (bytes : List ℕ) (taken : ℕ) (turn : Turn) : Type 0 where
  pub left : drop taken (cut door bytes).packets ≡ []
  pub is : turn ≡ tail_turn (cut door bytes).tail

-- which of the two a turn is
abbrev pub IsTurn : Door → List ℕ → ℕ → Turn → Type 0
IsTurn door bytes taken turn = IsForFirst door bytes taken turn ⊎ IsForTail door bytes taken turn

-- whether the connection closes at once: an ask may close it with its answer
abbrev pub closes_at_once : Step → Bool
closes_at_once (steps.Reply reply ends) = ends
closes_at_once (steps.Asks ask slot) = false
closes_at_once steps.Silent = false
closes_at_once steps.Close = true

abbrev pub turn_closes : Turn → Bool
turn_closes (turns.Packet packet step) = closes_at_once step
turn_closes turns.Need = false
turn_closes (turns.Refused header) = true
turn_closes turns.Close = true

-- the slot that waits for its answer
abbrev pub slot_in : Turn → Option Slot
slot_in (turns.Packet packet step) = conns.slot_in step
slot_in turns.Need = None
slot_in (turns.Refused header) = None
slot_in turns.Close = None

-- the slot of an ask takes the answers to it
abbrev pub HasItsSlot : Turn → Type 0
HasItsSlot (turns.Packet packet step) = conns.HasItsSlot step
HasItsSlot turns.Need = Unit {0}
HasItsSlot (turns.Refused header) = Unit {0}
HasItsSlot turns.Close = Unit {0}
