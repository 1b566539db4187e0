-- What is told is what is sent.
use Rattle.std.proofs.Common.{◌≡◌, List, [], ◌∷◌, map, Bool, true, false, if◌then◌else◌, refl, ap}
use Rattle.tac_wire.specs.declared.door.Door.{Door}
use Rattle.tac_wire.specs.declared.frame.Frame.{Frame}
use Rattle.tac_wire.specs.Stream.{Tail, open_end, fault}
use Rattle.tac_conn.specs.declared.ask.Answer.{Answer}
use Rattle.tac_conn.specs.declared.outcome.Outcome.{Outcome}
use Rattle.tac_conn.specs.declared.outcome.Outcome.TheVariants as comes_to
use Rattle.tac_conn.specs.declared.packet.Packet.{Packet}
use Rattle.tac_conn.specs.declared.reading.Received.{Received}
use Rattle.tac_conn.specs.Received.{received}
use Rattle.tac_conn.specs.declared.reply.Reply.{Reply as ReplyValue}
use Rattle.tac_conn.specs.Packet.{clear}
use Rattle.tac_conn.specs.Reply.{packet_of, answer_body}
use Rattle.tac_conn.specs.Judging.{reply_in}
use Rattle.tac_conn.specs.History.{outcome}
use Rattle.tac_audit.specs.declared.notice.Notice.{Notice}
use Rattle.tac_audit.specs.Notices.{notices_for, notices_at, notices_to, replies_told}
use Rattle.tac_worker.specs.Served.{Sending, served_for, served_to}
use Rattle.tac_worker.specs.Told.{ToldLaw}

packets_told : List Notice → List Packet
packets_told told = map packet_of (replies_told told)

packets_sent : List Sending → List Packet
packets_sent sendings = map (λ sending. sending.packet) sendings

-- of one packet, and those after it
module _ (packet : Received) (tells : List Answer → List Notice) (sends : List Answer → List Sending) (same : (left : List Answer) → packets_told (tells left) ≡ packets_sent (sends left)) where
  then_same : (reply : ReplyValue) (closes : Bool) (left : List Answer)
      → packet_of reply ∷ packets_told (if closes then [] else tells left) ≡ packet_of reply ∷ packets_sent (if closes then [] else sends left)
  unfolding packets_told packets_sent
  then_same reply true left = refl
  then_same reply false left = ap (λ (l : List Packet). packet_of reply ∷ l) (same left)

  single_same : (reply : ReplyValue) (single : Bool) (left : List Answer)
      → packet_of reply ∷ packets_told (if single then tells left else []) ≡ packet_of reply ∷ packets_sent (if single then sends left else [])
  unfolding packets_told packets_sent
  single_same reply true left = ap (λ (l : List Packet). packet_of reply ∷ l) (same left)
  single_same reply false left = refl

  one_same : (came : Outcome) (answers : List Answer) → packets_told (notices_for packet came answers tells) ≡ packets_sent (served_for came answers sends)
  unfolding packets_told packets_sent
  one_same (comes_to.Question reply session) answers = ap (λ (l : List Packet). packet_of reply ∷ l) (same answers)
  one_same (comes_to.Reply reply closes) answers = then_same reply closes answers
  one_same (comes_to.Asks ask slot) [] = refl
  one_same (comes_to.Asks ask slot) (answer ∷ answers) = single_same (reply_in slot (answer_body answer)) slot.single answers
  one_same comes_to.Silent answers = same answers
  one_same comes_to.Close answers = refl

tail_same : (tail : Tail) → packets_told (notices_at tail) ≡ packets_sent []
unfolding packets_told packets_sent
tail_same (open_end rest) = refl
tail_same (fault refused) = refl

all_same : (door : Door) (earlier : List Packet) (frames : List Frame) (tail : Tail) (answers : List Answer)
    → packets_told (notices_to door earlier frames tail answers) ≡ packets_sent (served_to door earlier frames answers)
unfolding notices_to served_to
all_same door earlier [] tail answers = tail_same tail
all_same door earlier (frame ∷ frames) tail answers =
    one_same (received earlier (clear door frame)) (λ left. notices_to door (clear door frame ∷ earlier) frames tail left) (λ left. served_to door (clear door frame ∷ earlier) frames left)
    (λ left. all_same door (clear door frame ∷ earlier) frames tail left) (outcome earlier (clear door frame)) answers

pub replies_law : ToldLaw
unfolding packets_told packets_sent
replies_law = all_same
