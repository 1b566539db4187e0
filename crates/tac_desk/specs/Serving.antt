-- What the server says on a connection to the bytes that come on it (RFC 8907, section 4).
use Rattle.std.specs.Prelude.{ℕ, List, [], ◌∷◌, ◌++◌, length, take, drop, Bool, true, false, not}
use Rattle.std.specs.Prelude.{if◌then◌else◌}
use Rattle.std.specs.List.{flat_map}
use Rattle.tac_wire.specs.declared.door.Door.{Door}
use Rattle.tac_wire.specs.declared.frame.Frame.{Frame}
use Rattle.tac_wire.specs.Stream.{Tail, open_end, cut}
use Rattle.tac_conn.specs.declared.packet.Packet.{Packet}
use Rattle.tac_conn.specs.declared.outcome.Outcome.{Outcome}
use Rattle.tac_conn.specs.declared.outcome.Outcome.TheVariants.{Question, Reply, Asks, Silent}
use Rattle.tac_conn.specs.declared.outcome.Outcome.TheVariants.{Close}
use Rattle.tac_conn.specs.declared.ask.Slot.{Slot}
use Rattle.tac_conn.specs.Packet.{clear, sent}
use Rattle.tac_conn.specs.Reply.{packet_of, answer_body}
use Rattle.tac_conn.specs.Judging.{reply_in}
use Rattle.tac_conn.specs.History.{outcome}
use Rattle.tac_stream.specs.Turns.{packets_of, closed_by}
use Rattle.tac_desk.specs.Meaning.{Meaning}
use Rattle.tac_desk.specs.Asking.{Answered, asked}

-- what is sent, in clear packets, whether the connection is closed then, and what the desk
-- represents from then on
pub record Said : Type 0 where
  pub sent : List Packet
  pub closes : Bool
  pub meaning : Meaning

-- ---- to one packet

-- a reply that is the desk's answer
abbrev pub answered : Slot → Answered → Said
answered slot told = record {
  sent = packet_of (reply_in slot (answer_body told.answer)) ∷ [];
  closes = not slot.single;
  meaning = told.meaning;
}

-- what is said to a packet of this outcome
abbrev pub says : Meaning → Outcome → Said
says meaning (Question reply session) =
    record { sent = packet_of reply ∷ []; closes = false; meaning = meaning }
says meaning (Reply reply closes) =
    record { sent = packet_of reply ∷ []; closes = closes; meaning = meaning }
says meaning (Asks ask slot) = answered slot (asked meaning ask)
says meaning Silent = record { sent = []; closes = false; meaning = meaning }
says meaning Close = record { sent = []; closes = true; meaning = meaning }

-- ---- to a stream

-- what is said after what was sent before
abbrev pub sent_before : List Packet → Said → Said
sent_before sent said = record said { sent = sent ++ said.sent }

-- a connection that is closed says no more
abbrev pub unless_closed : Said → (Meaning → Said) → Said
unless_closed said go_on = if said.closes then said else sent_before said.sent (go_on said.meaning)

-- what is said to these packets, one after another, on a connection on which others came earlier,
-- the latest first: to each by what the desk represents after the one before, until the connection
-- closes; the tail follows them
unfoldable pub said_to : Door → Meaning → List Packet → List Frame → Tail → Said
said_to door meaning earlier [] tail =
    record { sent = []; closes = closed_by tail; meaning = meaning }
said_to door meaning earlier (frame ∷ frames) tail =
    unless_closed (says meaning (outcome earlier (clear door frame)))
    (λ next. said_to door next (clear door frame ∷ earlier) frames tail)

-- what is said to a stream of which so many packets were taken: to the others
abbrev pub said_from : Door → Meaning → List ℕ → ℕ → Said
said_from door meaning bytes taken =
    let parts = cut door bytes in
    said_to door meaning (packets_of door (take taken parts.packets))
    (drop taken parts.packets) parts.tail

-- what is said to the next packets of it, so many of them
abbrev pub said_part : Door → Meaning → List ℕ → ℕ → ℕ → Said
said_part door meaning bytes taken count =
    let packets = (cut door bytes).packets in
    said_to door meaning (packets_of door (take taken packets)) (take count (drop taken packets))
    (open_end [])

-- how many packets are whole in these bytes
abbrev pub whole_packets : Door → List ℕ → ℕ
whole_packets door bytes = length (cut door bytes).packets

-- what is said to more bytes, on a connection on which these came before: to the packets that they
-- complete
abbrev pub said_on : Door → Meaning → List ℕ → List ℕ → Said
said_on door meaning before more =
    said_from door meaning (before ++ more) (whole_packets door before)

-- what is said to the first of the packets that they complete, so many of them
abbrev pub said_first : Door → Meaning → List ℕ → List ℕ → ℕ → Said
said_first door meaning before more count =
    said_part door meaning (before ++ more) (whole_packets door before) count

-- the bytes of packets as they are sent by this door
abbrev pub sent_bytes : Door → List Packet → List ℕ
sent_bytes door packets = flat_map (sent door) packets
