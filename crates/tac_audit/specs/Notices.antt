-- What a witness of a connection is told (docs/AUDIT.md): of the packets in their order, each with
-- its reply if it has one, and at the end a header that is refused.
use Rattle.std.specs.Prelude.{List, [], ◌∷◌, filter_map, Option, Some, None, if◌then◌else◌}
use Rattle.tac_wire.specs.declared.door.Door.{Door}
use Rattle.tac_wire.specs.declared.frame.Frame.{Frame}
use Rattle.tac_wire.specs.Stream.{Tail, open_end, fault}
use Rattle.tac_conn.specs.declared.ask.Answer.{Answer}
use Rattle.tac_conn.specs.declared.outcome.Outcome.{Outcome}
use Rattle.tac_conn.specs.declared.outcome.Outcome.TheVariants.{Question, Reply, Asks, Silent, Close}
use Rattle.tac_conn.specs.declared.packet.Packet.{Packet}
use Rattle.tac_conn.specs.declared.reply.Reply.{Reply as ReplyValue}
use Rattle.tac_conn.specs.declared.reading.Received.{Received}
use Rattle.tac_conn.specs.Packet.{clear}
use Rattle.tac_conn.specs.Received.{received}
use Rattle.tac_conn.specs.Reply.{answer_body}
use Rattle.tac_conn.specs.Judging.{reply_in}
use Rattle.tac_conn.specs.History.{outcome}
use Rattle.tac_audit.specs.declared.notice.Notice.{Notice}
use Rattle.tac_audit.specs.declared.notice.Notice.TheVariants as notices

-- of a packet that was read so and has this reply, and of one without a reply
abbrev pub replied : Received → ReplyValue → Notice
replied packet reply = notices.Packet packet (Some reply)

abbrev pub unreplied : Received → Notice
unreplied packet = notices.Packet packet None

-- of a packet of this outcome, and of those after it by the answers that it leaves: an ask takes
-- the next answer, and where none is left nothing more is told; nor is it once the connection
-- closes
abbrev pub notices_for : Received → Outcome → List Answer → (List Answer → List Notice) → List Notice
notices_for packet (Question reply session) answers later = replied packet reply ∷ later answers
notices_for packet (Reply reply closes) answers later =
    replied packet reply ∷ (if closes then [] else later answers)
notices_for packet (Asks ask slot) [] later = []
notices_for packet (Asks ask slot) (answer ∷ answers) later =
    replied packet (reply_in slot (answer_body answer))
    ∷ (if slot.single then later answers else [])
notices_for packet Silent answers later = unreplied packet ∷ later answers
notices_for packet Close answers later = unreplied packet ∷ []

-- of a header that is refused
abbrev pub notices_at : Tail → List Notice
notices_at (open_end bytes) = []
notices_at (fault refused) = notices.BadHeader refused.header ∷ []

-- of these packets, one after another, on a connection on which others came earlier, the latest
-- first, and of what follows them, where what they ask is answered so
unfoldable pub notices_to : Door → List Packet → List Frame → Tail → List Answer → List Notice
notices_to door earlier [] tail answers = notices_at tail
notices_to door earlier (frame ∷ frames) tail answers =
    notices_for (received earlier (clear door frame)) (outcome earlier (clear door frame)) answers
    (λ left. notices_to door (clear door frame ∷ earlier) frames tail left)

-- the replies of which it is told
abbrev pub reply_told : Notice → Option ReplyValue
reply_told (notices.Packet packet reply) = reply
reply_told (notices.BadHeader header) = None

abbrev pub replies_told : List Notice → List ReplyValue
replies_told told = filter_map reply_told told
