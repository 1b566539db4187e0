-- One packet after another of what came on a connection.
use Rattle.std.proofs.Common.{◌≡◌, ℕ, suc, ◌+◌, ◌<◌, List, [], ◌∷◌, ◌++◌, length, take, drop, length-drop, Bool, true, false, not, None, Result, Ok, Err, IsErr, refl, sym, ap, subst, ◌∙◌, append-nil, arith}
use Rattle.std.proofs.Math.Seq.{take-add}
use Rattle.std.proofs.lemmas.List.{drop-drop, drop_all, take-append-drop}
use Rattle.std.specs.declared.ops.ControlFlow.TheVariants.{Continue, Break}
use Rattle.std.specs.declared.alloc.AllocError.{AllocError}
use Rattle.tac_wire.specs.declared.door.Door.{Door}
use Rattle.tac_wire.specs.declared.frame.Frame.{Frame}
use Rattle.tac_wire.specs.Stream.{Tail, open_end, fault, cut}
use Rattle.tac_conn.specs.declared.ask.Ask.{Ask}
use Rattle.tac_conn.specs.declared.ask.Slot.{Slot}
use Rattle.tac_conn.specs.declared.outcome.Outcome.{Outcome}
use Rattle.tac_conn.specs.declared.outcome.Outcome.TheVariants as comes_to
use Rattle.tac_conn.specs.declared.packet.Packet.{Packet}
use Rattle.tac_conn.specs.declared.reading.Received.{Received}
use Rattle.tac_conn.specs.Received.{received, without_ask}
use Rattle.tac_conn.specs.declared.reply.Reply.{Reply as ReplyValue}
use Rattle.tac_conn.specs.Packet.{clear, sent, IsWhole}
use Rattle.tac_conn.specs.Reply.{packet_of, answer_body}
use Rattle.tac_conn.specs.Judging.{reply_in}
use Rattle.tac_conn.specs.History.{outcome}
use Rattle.tac_conn.specs.Standing.{step_of}
use Rattle.tac_conn.specs.declared.step.Step.{Step}
use Rattle.tac_conn.specs.declared.step.Step.TheVariants.{Reply, Asks, Silent, Close}
use Rattle.tac_stream.specs.declared.stream.Stream.{Stream}
use Rattle.tac_stream.specs.declared.turn.Turn.{Turn}
use Rattle.tac_stream.specs.declared.turn.Turn.TheVariants as turns
use Rattle.tac_stream.specs.Turns.{packets_of, closed_by, tail_turn, turn_by, next_turn}
use Rattle.tac_stream.specs.Kept.{IsReady, Stands, closed_of, pending_of}
use Rattle.tac_desk.specs.Meaning.{Meaning}
use Rattle.tac_desk.specs.Asking.{asked}
use Rattle.tac_desk.specs.Serving.{Said, says, answered, sent_before, unless_closed, said_to, said_from, said_part, whole_packets}
use Rattle.tac_server.specs.Kept.{Sends}
use Rattle.tac_server.specs.Turning.{after_reply, Goes, GoesOn, IsAtRest, ClosesWith, SaysAll, SaysSome, SaysPiece}
use Rattle.tac_desk.proofs.ServingFacts.{said_to-none, said_to-append, packets_of-append}
use Rattle.tac_server.proofs.SentFacts.{sends_none, sends_one, sends-append}

-- ---- what a step says

-- what is said to the packet of this step
abbrev pub StepSays : Meaning → Step → Said → Type 0
StepSays meaning (Reply reply ends) said = said ≡ record { sent = packet_of reply ∷ []; closes = ends; meaning = meaning }
StepSays meaning (Asks ask slot) said = said ≡ answered slot (asked meaning ask)
StepSays meaning Silent said = said ≡ record { sent = []; closes = false; meaning = meaning }
StepSays meaning Close said = said ≡ record { sent = []; closes = true; meaning = meaning }

step_says : (meaning : Meaning) (said : Outcome) → StepSays meaning (step_of said) (says meaning said)
step_says meaning (comes_to.Question reply session) = refl
step_says meaning (comes_to.Reply reply ends) = refl
step_says meaning (comes_to.Asks ask slot) = refl
step_says meaning comes_to.Silent = refl
step_says meaning comes_to.Close = refl

same_step : (packet other : Received) (it said : Step) → turns.Packet packet it ≡ turns.Packet other said → it ≡ said
same_step packet other it said e = cc

-- after the last packet nothing is done for a packet
no_packet : (packet : Received) (it : Step) (tail : Tail) → turns.Packet packet it ≡ tail_turn tail → ⊥
no_packet packet it (open_end rest) e = cc
no_packet packet it (fault refused) e = cc

-- the turns by which nothing is sent and the connection closes
abbrev pub Shuts : Turn → Type 0
Shuts (turns.Packet packet it) = it ≡ Close
Shuts turns.Need = ⊥
Shuts (turns.Refused header) = Unit {0}
Shuts turns.Close = Unit {0}

-- ---- one packet of a stream

module _ (door : Door) (bytes : List ℕ) (taken : ℕ) where
  earlier : List Packet
  earlier = packets_of door (take taken (cut door bytes).packets)

  -- the next packet, and what is said to it
  pub record IsNext (meaning : Meaning) (it : Step) : Type 0 where
    pub frame : Frame
    pub more : List Frame
    pub left : drop taken (cut door bytes).packets ≡ frame ∷ more
    pub says : StepSays meaning it (says meaning (outcome (packets_of door (take taken (cut door bytes).packets)) (clear door frame)))

  next_by : (meaning : Meaning) (packet : Received) (it : Step) (frames : List Frame) → drop taken (cut door bytes).packets ≡ frames
      → turns.Packet packet it ≡ turn_by door (packets_of door (take taken (cut door bytes).packets)) frames (cut door bytes).tail → IsNext meaning it
  next_by meaning packet it [] e is = absurd (no_packet packet it (cut door bytes).tail is)
  next_by meaning packet it (frame ∷ more) e is =
      let said = outcome (packets_of door (take taken (cut door bytes).packets)) (clear door frame) in
      record {
        frame = frame;
        more = more;
        left = e;
        says = subst (λ (s : Step). StepSays meaning s (says meaning said)) (sym (same_step packet (without_ask (step_of said) (received (packets_of door (take taken (cut door bytes).packets)) (clear door frame))) it (step_of said) is)) (step_says meaning said);
      }

  next_is : (meaning : Meaning) (packet : Received) (it : Step) → turns.Packet packet it ≡ next_turn door bytes taken → IsNext meaning it
  unfolding next_turn
  next_is meaning packet it is = next_by meaning packet it (drop taken (cut door bytes).packets) refl is

  -- a turn without a packet: none is left
  abbrev Lacks : Turn → Type 0
  Lacks turn = (packet : Received) (it : Step) → turn ≡ turns.Packet packet it → ⊥

  none_by : (turn : Turn) (frames : List Frame) → drop taken (cut door bytes).packets ≡ frames → turn ≡ turn_by door (packets_of door (take taken (cut door bytes).packets)) frames (cut door bytes).tail → Lacks turn
      → (drop taken (cut door bytes).packets ≡ []) × (turn ≡ tail_turn (cut door bytes).tail)
  none_by turn [] e is lacks = (e, is)
  none_by turn (frame ∷ more) e is lacks = absurd (lacks _ _ is)

  none_is : (turn : Turn) → turn ≡ next_turn door bytes taken → Lacks turn → (drop taken (cut door bytes).packets ≡ []) × (turn ≡ tail_turn (cut door bytes).tail)
  unfolding next_turn
  none_is turn is lacks = none_by turn (drop taken (cut door bytes).packets) refl is lacks

  -- some packet is left
  left_within : (frame : Frame) (more : List Frame) → drop taken (cut door bytes).packets ≡ frame ∷ more → taken < whole_packets door bytes
  left_within frame more e = let long = length-drop taken (cut door bytes).packets in let left = ap length e in omega (arith, long, left)

  -- what is said to one packet, and to all that are left
  one : (meaning : Meaning) (frame : Frame) (more : List Frame) → drop taken (cut door bytes).packets ≡ frame ∷ more
      → said_part door meaning bytes taken 1
      ≡ unless_closed (says meaning (outcome (packets_of door (take taken (cut door bytes).packets)) (clear door frame))) (λ next. record { sent = []; closes = false; meaning = next })
  unfolding said_to
  one meaning frame more e = rw e refl

  all : (meaning : Meaning) (frame : Frame) (more : List Frame) → drop taken (cut door bytes).packets ≡ frame ∷ more
      → said_from door meaning bytes taken
      ≡ unless_closed (says meaning (outcome (packets_of door (take taken (cut door bytes).packets)) (clear door frame)))
      (λ next. said_to door next (clear door frame ∷ packets_of door (take taken (cut door bytes).packets)) more (cut door bytes).tail)
  unfolding said_to
  all meaning frame more e = rw e refl

  module _ (was now : Meaning) (old new : List ℕ) (stream : Stream) (frame : Frame) (more : List Frame) (left : drop taken (cut door bytes).packets ≡ frame ∷ more) where
    -- the packet was served, and this was sent
    served : (packets : List Packet) (ends : Bool)
        → says was (outcome (packets_of door (take taken (cut door bytes).packets)) (clear door frame)) ≡ record { sent = packets; closes = ends; meaning = now }
        → Sends door old new packets → closed_of stream ≡ ends → pending_of stream ≡ None → Stands door stream bytes (suc taken)
        → Goes (after_reply ends) door was now old new stream bytes taken
    served packets false e sends closed free stands = record {
      packets = packets;
      within = left_within frame more left;
      said = one was frame more left ∙ rw e (ap (λ (l : List Packet). record { sent = l; closes = false; meaning = now }) (append-nil packets));
      sends = sends;
      ready = (closed, free);
      stands = stands;
    }
    served packets true e sends closed free stands = record {
      packets = packets;
      said = all was frame more left ∙ rw e refl;
      sends = sends;
    }

  -- a reply is sent
  pub goes_reply : (meaning : Meaning) (old new : List ℕ) (stream : Stream) (packet : Received) (reply : ReplyValue) (ends : Bool) → turns.Packet packet (Reply reply ends) ≡ next_turn door bytes taken
      → new ≡ old ++ sent door (packet_of reply) → IsWhole (sent door (packet_of reply)) → closed_of stream ≡ ends → pending_of stream ≡ None → Stands door stream bytes (suc taken)
      → Goes (after_reply ends) door meaning meaning old new stream bytes taken
  goes_reply meaning old new stream packet reply ends is added whole closed free stands =
      let f = next_is meaning packet (Reply reply ends) is in
      served meaning meaning old new stream f.frame f.more f.left (packet_of reply ∷ []) ends f.says (sends_one door old new reply added whole) closed free stands

  -- the desk has answered
  pub goes_answer : (was now : Meaning) (old new : List ℕ) (stream : Stream) (packet : Received) (ask : Ask) (slot : Slot) (reply : ReplyValue) (ends : Bool) → turns.Packet packet (Asks ask slot) ≡ next_turn door bytes taken
      → now ≡ (asked was ask).meaning → reply ≡ reply_in slot (answer_body (asked was ask).answer) → ends ≡ not slot.single
      → new ≡ old ++ sent door (packet_of reply) → IsWhole (sent door (packet_of reply)) → closed_of stream ≡ ends → pending_of stream ≡ None → Stands door stream bytes (suc taken)
      → Goes (after_reply ends) door was now old new stream bytes taken
  goes_answer was now old new stream packet ask slot reply ends is told same closing added whole closed free stands =
      let f = next_is was packet (Asks ask slot) is in
      served was now old new stream f.frame f.more f.left (packet_of reply ∷ []) ends (f.says ∙ rw (told, closing, same) refl) (sends_one door old new reply added whole) closed free stands

  -- nothing is sent
  pub goes_silent : (meaning : Meaning) (old new : List ℕ) (stream : Stream) (packet : Received) → turns.Packet packet Silent ≡ next_turn door bytes taken
      → new ≡ old → closed_of stream ≡ false → pending_of stream ≡ None → Stands door stream bytes (suc taken) → Goes (Continue tt) door meaning meaning old new stream bytes taken
  goes_silent meaning old new stream packet is added closed free stands =
      let f = next_is meaning packet Silent is in
      served meaning meaning old new stream f.frame f.more f.left [] false f.says (sends_none door old new added) closed free stands

  -- no packet is left
  pub goes_need : (meaning : Meaning) (old new : List ℕ) (stream : Stream) → turns.Need ≡ next_turn door bytes taken
      → new ≡ old → closed_of stream ≡ false → pending_of stream ≡ None → Stands door stream bytes taken → Goes (Break false) door meaning meaning old new stream bytes taken
  goes_need meaning old new stream is added closed free stands =
      let n = none_is turns.Need is lacks in
      let tail = by_tail (cut door bytes).tail n.1 in
      let none : length (drop taken (cut door bytes).packets) ≡ 0 = ap length n.0 in
      let within = stands.within in
      record {
        rest = tail.0;
        tail = tail.1;
        all = omega (arith, none, length-drop taken (cut door bytes).packets, within);
        nothing = added;
        same = refl;
        ready = (closed, free);
        stands = stands;
      }
    where
      lacks : Lacks turns.Need
      lacks packet it e = cc

      by_tail : (tail : Tail) → turns.Need ≡ tail_turn tail → (rest : List ℕ) × (tail ≡ open_end rest)
      by_tail (open_end rest) e = (rest, refl)
      by_tail (fault refused) e = cc

  -- a packet closes the connection without a reply
  closes_packet : (meaning : Meaning) (old new : List ℕ) (stream : Stream) (packet : Received) → turns.Packet packet Close ≡ next_turn door bytes taken → new ≡ old → Goes (Break true) door meaning meaning old new stream bytes taken
  closes_packet meaning old new stream packet is added =
      let f = next_is meaning packet Close is in
      record {
        packets = [];
        said = all meaning f.frame f.more f.left ∙ rw f.says refl;
        sends = sends_none door old new added;
      }

  -- so does a header that is refused
  closes_tail : (meaning : Meaning) (old new : List ℕ) (stream : Stream) → drop taken (cut door bytes).packets ≡ [] → closed_by (cut door bytes).tail ≡ true → new ≡ old → Goes (Break true) door meaning meaning old new stream bytes taken
  closes_tail meaning old new stream left shut added = record {
    packets = [];
    said = rw left (said_to-none door meaning (packets_of door (take taken (cut door bytes).packets)) (cut door bytes).tail ∙ rw shut refl);
    sends = sends_none door old new added;
  }

  -- the connection closes without a reply
  pub goes_close : (meaning : Meaning) (old new : List ℕ) (stream : Stream) (turn : Turn) → turn ≡ next_turn door bytes taken → Shuts turn → new ≡ old → Goes (Break true) door meaning meaning old new stream bytes taken
  goes_close meaning old new stream (turns.Packet packet it) is shuts added =
      closes_packet meaning old new stream packet (subst (λ (s : Step). turns.Packet packet s ≡ next_turn door bytes taken) shuts is) added
  goes_close meaning old new stream turns.Need is shuts added = absurd shuts
  goes_close meaning old new stream (turns.Refused header) is shuts added =
      let n = none_is (turns.Refused header) is lacks in closes_tail meaning old new stream n.0 (by_tail (cut door bytes).tail n.1) added
    where
      lacks : Lacks (turns.Refused header)
      lacks packet it e = cc

      by_tail : (tail : Tail) → turns.Refused header ≡ tail_turn tail → closed_by tail ≡ true
      by_tail (open_end rest) e = cc
      by_tail (fault refused) e = refl
  goes_close meaning old new stream turns.Close is shuts added = absurd (by_tail (cut door bytes).tail (none_is turns.Close is lacks).1)
    where
      lacks : Lacks turns.Close
      lacks packet it e = cc

      by_tail : (tail : Tail) → turns.Close ≡ tail_turn tail → ⊥
      by_tail (open_end rest) e = cc
      by_tail (fault refused) e = cc

-- ---- turn after turn

-- so many packets were served from a place on, and this was sent for them
pub record Progress (door : Door) (was now : Meaning) (old new : List ℕ) (stream : Stream) (bytes : List ℕ) (from : ℕ) : Type 0 where
  pub count : ℕ
  pub packets : List Packet
  pub said : said_part door was bytes from count ≡ record { sent = packets; closes = false; meaning = now }
  pub sends : Sends door old new packets
  pub ready : IsReady stream
  pub stands : Stands door stream bytes (from + count)

nothing_left : (door : Door) (bytes : List ℕ) (taken : ℕ) → taken ≡ whole_packets door bytes → (rest : List ℕ) → (cut door bytes).tail ≡ open_end rest → (meaning : Meaning)
    → said_from door meaning bytes taken ≡ record { sent = []; closes = false; meaning = meaning }
unfolding said_to
nothing_left door bytes taken e rest tail meaning =
    let none : drop taken (cut door bytes).packets ≡ [] = drop_all taken (cut door bytes).packets (omega (arith, e)) in rw (none, tail) refl

-- memory ran out before anything was served
pub none_said : (door : Door) (was now : Meaning) (old new before piece : List ℕ) → now ≡ was → new ≡ old → SaysSome door was now old new before piece
unfolding said_to
none_said door was now old new before piece same e = record { count = 0; packets = []; said = rw same refl; sends = sends_none door old new e }

module _ (door : Door) (bytes : List ℕ) (from : ℕ) where
  history : (count : ℕ) → packets_of door (take count (drop from (cut door bytes).packets)) ++ packets_of door (take from (cut door bytes).packets) ≡ packets_of door (take (from + count) (cut door bytes).packets)
  history count =
      sym (packets_of-append door (take from (cut door bytes).packets) (take count (drop from (cut door bytes).packets))) ∙ ap (packets_of door) (sym (take-add from count (cut door bytes).packets))

  -- what is said to so many packets, and then to others
  parted : (was : Meaning) (count : ℕ) (second : List Frame) (tail : Tail)
      → said_to door was (packets_of door (take from (cut door bytes).packets)) (take count (drop from (cut door bytes).packets) ++ second) tail
      ≡ unless_closed (said_part door was bytes from count) (λ next. said_to door next (packets_of door (take (from + count) (cut door bytes).packets)) second tail)
  parted was count second tail =
      said_to-append door (take count (drop from (cut door bytes).packets)) second tail [] was (packets_of door (take from (cut door bytes).packets))
      ∙ ap (λ (h : List Packet). unless_closed (said_part door was bytes from count) (λ next. said_to door next h second tail)) (history count)

  one_more : (was : Meaning) (count : ℕ) → said_part door was bytes from (suc count) ≡ unless_closed (said_part door was bytes from count) (λ next. said_part door next bytes (from + count) 1)
  one_more was count =
      let next : suc count ≡ count + 1 = omega arith in
      let frames : take (suc count) (drop from (cut door bytes).packets) ≡ take count (drop from (cut door bytes).packets) ++ take 1 (drop (from + count) (cut door bytes).packets) =
      ap (λ (n : ℕ). take n (drop from (cut door bytes).packets)) next ∙ take-add count 1 (drop from (cut door bytes).packets)
      ∙ ap (λ (l : List Frame). take count (drop from (cut door bytes).packets) ++ take 1 l) (drop-drop count from (cut door bytes).packets) in
      ap (λ (l : List Frame). said_to door was (packets_of door (take from (cut door bytes).packets)) l (open_end [])) frames
      ∙ parted was count (take 1 (drop (from + count) (cut door bytes).packets)) (open_end [])

  the_others : (was : Meaning) (count : ℕ) → said_from door was bytes from ≡ unless_closed (said_part door was bytes from count) (λ next. said_from door next bytes (from + count))
  the_others was count =
      let frames : drop from (cut door bytes).packets ≡ take count (drop from (cut door bytes).packets) ++ drop (from + count) (cut door bytes).packets =
      sym (take-append-drop count (drop from (cut door bytes).packets))
      ∙ ap (λ (l : List Frame). take count (drop from (cut door bytes).packets) ++ l) (drop-drop count from (cut door bytes).packets) in
      ap (λ (l : List Frame). said_to door was (packets_of door (take from (cut door bytes).packets)) l (cut door bytes).tail) frames
      ∙ parted was count (drop (from + count) (cut door bytes).packets) (cut door bytes).tail

  -- nothing was served yet
  pub begun : (was : Meaning) (old : List ℕ) (stream : Stream) → IsReady stream → Stands door stream bytes from → Progress door was was old old stream bytes from
  unfolding said_to
  begun was old stream ready stands = record {
    count = 0;
    packets = [];
    said = refl;
    sends = sends_none door old old refl;
    ready = ready;
    stands = (let same : from ≡ from + 0 = omega arith in subst (λ (n : ℕ). Stands door stream bytes n) same stands);
  }

  module _ (was now : Meaning) (old mid : List ℕ) (stream : Stream) (p : Progress door was now old mid stream bytes from) where
    -- one more packet was served
    pub going_on : (next : Meaning) (new : List ℕ) (after : Stream) → GoesOn door now next mid new after bytes (from + p.count) → Progress door was next old new after bytes from
    going_on next new after g = record {
      count = suc p.count;
      packets = p.packets ++ g.packets;
      said = one_more was p.count ∙ ap (λ (s : Said). unless_closed s (λ next. said_part door next bytes (from + p.count) 1)) p.said ∙ ap (sent_before p.packets) g.said;
      sends = sends-append door old mid new p.packets g.packets p.sends g.sends;
      ready = g.ready;
      stands = (let same : suc (from + p.count) ≡ from + suc p.count = omega arith in subst (λ (n : ℕ). Stands door after bytes n) same g.stands);
    }

    -- all that is said from there on, by what is said to the others
    all_said : (rest : Said) → said_from door now bytes (from + p.count) ≡ rest → said_from door was bytes from ≡ sent_before p.packets rest
    all_said rest e =
        the_others was p.count ∙ ap (λ (s : Said). unless_closed s (λ next. said_from door next bytes (from + p.count))) p.said ∙ ap (sent_before p.packets) e

    -- no packet is left
    pub at_rest : (next : Meaning) (new : List ℕ) (after : Stream) → IsAtRest door now next mid new after bytes (from + p.count)
        → SaysAll door next old new false after bytes (said_from door was bytes from)
    at_rest next new after r =
        let nothing : said_from door now bytes (from + p.count) ≡ record { sent = []; closes = false; meaning = now } = nothing_left door bytes (from + p.count) r.all r.rest r.tail now in
        let whole = all_said (record { sent = []; closes = false; meaning = now }) nothing in
        record {
          closing = sym (ap (λ (s : Said). s.closes) whole);
          meaning = r.same ∙ sym (ap (λ (s : Said). s.meaning) whole);
          sends = subst (λ (l : List Packet). Sends door old new l) (sym (ap (λ (s : Said). s.sent) whole))
              (sends-append door old mid new p.packets [] p.sends (sends_none door mid new r.nothing));
          serves = record { rest = r.rest; tail = r.tail; ready = r.ready; stands = subst (λ (n : ℕ). Stands door after bytes n) r.all r.stands };
        }

    -- the connection closes
    pub closing : (next : Meaning) (new : List ℕ) (after : Stream) → ClosesWith door now next mid new bytes (from + p.count)
        → SaysAll door next old new true after bytes (said_from door was bytes from)
    closing next new after r =
        let whole = all_said (record { sent = r.packets; closes = true; meaning = next }) r.said in
        record {
          closing = sym (ap (λ (s : Said). s.closes) whole);
          meaning = sym (ap (λ (s : Said). s.meaning) whole);
          sends = subst (λ (l : List Packet). Sends door old new l) (sym (ap (λ (s : Said). s.sent) whole))
              (sends-append door old mid new p.packets r.packets p.sends r.sends);
          serves = tt;
        }

    -- nothing more is to be done
    pub stopping : (closes : Bool) (next : Meaning) (new : List ℕ) (after : Stream) → Goes (Break closes) door now next mid new after bytes (from + p.count)
        → SaysAll door next old new closes after bytes (said_from door was bytes from)
    stopping false next new after r = at_rest next new after r
    stopping true next new after r = closing next new after r

    -- memory ran out before the next packet
    pub cut_short : (new : List ℕ) (next : Meaning) → new ≡ mid → next ≡ now → (before piece : List ℕ) → before ++ piece ≡ bytes → from ≡ whole_packets door before → SaysSome door was next old new before piece
    cut_short new next e same before piece whole place = record {
      count = p.count;
      packets = p.packets;
      said = rw (whole, ← place, same) p.said;
      sends = rw e p.sends;
    }

-- a piece was served as far as memory lasted
pub says_err : (result : Result Bool AllocError) (door : Door) (was now : Meaning) (old new : List ℕ) (stream : Stream) (before piece : List ℕ) → IsErr result
    → SaysSome door was now old new before piece → SaysPiece result door was now old new stream before piece
says_err (Ok closes) door was now old new stream before piece is s = cc
says_err (Err error) door was now old new stream before piece is s = s
