-- What is sent on a connection, by the bytes that came on it and a list of answers to what they
-- ask (RFC 8907, section 4). No desk stands here: the answers are taken as they are.
use Rattle.std.specs.Prelude.{ℕ, List, [], ◌∷◌, flat_map, filter_map, Bool, ◌||◌}
use Rattle.std.specs.Prelude.{Option, Some, None, if◌then◌else◌}
use Rattle.tac_wire.specs.declared.door.Door.{Door}
use Rattle.tac_wire.specs.declared.frame.Frame.{Frame}
use Rattle.tac_wire.specs.Stream.{cut}
use Rattle.tac_conn.specs.declared.ask.Answer.{Answer}
use Rattle.tac_conn.specs.declared.ask.Ask.{Ask}
use Rattle.tac_conn.specs.declared.ask.Slot.{Slot}
use Rattle.tac_conn.specs.declared.outcome.Outcome.{Outcome}
use Rattle.tac_conn.specs.declared.outcome.Outcome.TheVariants.{Question, Reply, Asks}
use Rattle.tac_conn.specs.declared.outcome.Outcome.TheVariants.{Silent, Close}
use Rattle.tac_conn.specs.declared.packet.Packet.{Packet}
use Rattle.tac_conn.specs.declared.reply.Reply.{Reply as ReplyValue}
use Rattle.tac_conn.specs.Packet.{clear, sent}
use Rattle.tac_conn.specs.Reply.{packet_of, answer_body}
use Rattle.tac_conn.specs.Judging.{reply_in}
use Rattle.tac_conn.specs.History.{outcome, is_closed}
use Rattle.tac_stream.specs.Turns.{packets_of, closed_by}

-- a packet that is sent, with the answer that it carries, if it carries one
pub record Sending : Type 0 where
  pub packet : Packet
  pub carries : Option Answer

-- ---- to one packet

-- a reply that no one was asked for
abbrev pub plain : ReplyValue → Sending
plain reply = record { packet = packet_of reply; carries = None }

-- the reply that carries this answer
abbrev pub carrying : Slot → Answer → Sending
carrying slot answer =
    record { packet = packet_of (reply_in slot (answer_body answer)); carries = Some answer }

-- what is sent for a packet of this outcome, and for those after it by the answers that it
-- leaves: an ask takes the next answer, and where none is left nothing more is sent; nor is it once
-- the connection closes
abbrev pub served_for : Outcome → List Answer → (List Answer → List Sending) → List Sending
served_for (Question reply session) answers later = plain reply ∷ later answers
served_for (Reply reply closes) answers later = plain reply ∷ (if closes then [] else later answers)
served_for (Asks ask slot) [] later = []
served_for (Asks ask slot) (answer ∷ answers) later =
    carrying slot answer ∷ (if slot.single then later answers else [])
served_for Silent answers later = later answers
served_for Close answers later = []

-- what a packet of this outcome asks, and what those after it ask, unless the connection closes
abbrev pub asked_by : Outcome → List Ask → List Ask
asked_by (Question reply session) later = later
asked_by (Reply reply closes) later = if closes then [] else later
asked_by (Asks ask slot) later = ask ∷ (if slot.single then later else [])
asked_by Silent later = later
asked_by Close later = []

-- ---- to packets

-- the same for these packets, one after another, on a connection on which others came earlier, the
-- latest first
unfoldable pub served_to : Door → List Packet → List Frame → List Answer → List Sending
served_to door earlier [] answers = []
served_to door earlier (frame ∷ frames) answers =
    served_for (outcome earlier (clear door frame)) answers
    (λ left. served_to door (clear door frame ∷ earlier) frames left)

unfoldable pub asks_in : Door → List Packet → List Frame → List Ask
asks_in door earlier [] = []
asks_in door earlier (frame ∷ frames) =
    asked_by (outcome earlier (clear door frame)) (asks_in door (clear door frame ∷ earlier) frames)

-- ---- to a stream

-- what is sent for these bytes: each ask takes the next answer
abbrev pub served : Door → List ℕ → List Answer → List Sending
served door bytes answers = served_to door [] (cut door bytes).packets answers

-- what these bytes ask
abbrev pub asks : Door → List ℕ → List Ask
asks door bytes = asks_in door [] (cut door bytes).packets

-- whether these bytes close the connection
abbrev pub closes : Door → List ℕ → Bool
closes door bytes =
    let parts = cut door bytes in is_closed (packets_of door parts.packets) || closed_by parts.tail

-- the bytes that are sent, by this door
abbrev pub bytes_sent : Door → List Sending → List ℕ
bytes_sent door sendings = flat_map (λ sending. sent door sending.packet) sendings

-- the answers that are sent
abbrev pub carried : List Sending → List Answer
carried sendings = filter_map (λ sending. sending.carries) sendings
