-- What one turn of a worker does.
use Rattle.std.proofs.Common.{◌≡◌, ℕ, suc, List, [], ◌∷◌, ◌++◌, length, ◌<◌, ◌≤◌, take, drop, Bool, true, false, not, ◌||◌, Option, Some, None, Result, Ok, Err, IsErrAnd, if◌then◌else◌, inl, inr, refl, sym, ap, subst, ◌∙◌, append_assoc, append-nil, length-drop, arith}
use Rattle.std.proofs.lemmas.List.{take-append-drop}
use Rattle.std.specs.Io.KnownBytes.{Appends}
use Rattle.std.proofs.KnownBytes.{Appends-nil}
use Rattle.tac_wire.specs.declared.door.Door.{Door}
use Rattle.tac_wire.specs.declared.frame.Frame.{Frame}
use Rattle.tac_wire.specs.declared.header.Header.{Header}
use Rattle.tac_wire.specs.Stream.{Tail, open_end, fault, cut, cut_within}
use Rattle.tac_conn.specs.declared.ask.Answer.{Answer}
use Rattle.tac_conn.specs.declared.ask.Ask.{Ask}
use Rattle.tac_conn.specs.declared.ask.Slot.{Slot}
use Rattle.tac_conn.specs.declared.outcome.Outcome.{Outcome}
use Rattle.tac_conn.specs.declared.outcome.Outcome.TheVariants as comes_to
use Rattle.tac_conn.specs.declared.packet.Packet.{Packet}
use Rattle.tac_conn.specs.declared.reading.Received.{Received}
use Rattle.tac_conn.specs.Received.{received, without_ask, with_ask, IsWholeWith}
use Rattle.tac_conn.specs.declared.reply.Reply.{Reply as ReplyValue}
use Rattle.tac_conn.specs.Packet.{clear, sent}
use Rattle.tac_conn.specs.Reply.{packet_of, answer_body}
use Rattle.tac_conn.specs.Judging.{reply_in, closes as outcome_closes}
use Rattle.tac_conn.specs.History.{outcome, judged_after, is_closed}
use Rattle.tac_conn.specs.Standing.{step_of}
use Rattle.tac_conn.specs.declared.step.Step.{Step}
use Rattle.tac_conn.specs.declared.step.Step.TheVariants.{Reply, Asks, Silent, Close}
use Rattle.tac_hall.specs.declared.fault.HallFault.{HallFault}
use Rattle.tac_audit.specs.declared.notice.Notice.{Notice}
use Rattle.tac_audit.specs.declared.notice.Notice.TheVariants as notices
use Rattle.tac_audit.specs.Notices.{replied, unreplied, notices_for, notices_at, notices_to}
use Rattle.tac_audit.specs.Witness.{AreTold}
use Rattle.tac_stream.specs.declared.stream.Stream.{Stream}
use Rattle.tac_stream.specs.declared.turn.Turn.TheVariants as turns
use Rattle.tac_stream.specs.Turns.{packets_of, closed_by, tail_turn, IsTurn}
use Rattle.tac_stream.specs.Kept.{Stands, closed_of, pending_of}
use Rattle.tac_worker.specs.declared.end.End.{End}
use Rattle.tac_worker.specs.declared.end.End.TheVariants.{Finished, ByProtocol, Stopped, LogFull, Memory, ReadFault, Unwitnessed, NoSeat}
use Rattle.tac_worker.specs.declared.turning.Went.{Went}
use Rattle.tac_worker.specs.declared.turning.Went.TheVariants.{On, Rests}
use Rattle.tac_worker.specs.Served.{Sending, plain, carrying, served_for, asked_by, served_to, asks_in, closes, bytes_sent, carried}
use Rattle.tac_worker.specs.Told.{bytes_told, LeavesUntold, refused_of}
use Rattle.tac_worker.specs.Worked.{Exchange, asks_of, answers_of, AreMade, AreAllMade, Worker, Leaves, Closes, Writes}
use Rattle.tac_worker.specs.Working.{Handled, GoesOn, IsUncalled, Replies, Answers, Notes, taken_of, left_of, Turned}
use Rattle.tac_worker.proofs.ServedFacts.{packets_of-append, Done}

-- ---- the outcome of a packet, by its step

abbrev pub ServesBy : Step → Outcome → Type 0
ServesBy (Reply reply ends) came =
    ((answers : List Answer) (later : List Answer → List Sending) → served_for came answers later ≡ plain reply ∷ (if ends then [] else later answers))
    × ((later : List Ask) → asked_by came later ≡ (if ends then [] else later))
    × (outcome_closes came ≡ ends)
    × ((packet : Received) (answers : List Answer) (later : List Answer → List Notice) → notices_for packet came answers later ≡ replied packet reply ∷ (if ends then [] else later answers))
ServesBy (Asks ask slot) came = came ≡ comes_to.Asks ask slot
ServesBy Silent came = came ≡ comes_to.Silent
ServesBy Close came = came ≡ comes_to.Close

serves_by : (came : Outcome) → ServesBy (step_of came) came
serves_by (comes_to.Question reply session) = (λ answers later. refl, λ later. refl, refl, λ packet answers later. refl)
serves_by (comes_to.Reply reply ends) = (λ answers later. refl, λ later. refl, refl, λ packet answers later. refl)
serves_by (comes_to.Asks ask slot) = refl
serves_by comes_to.Silent = refl
serves_by comes_to.Close = refl

same_step : (packet other : Received) (it said : Step) → turns.Packet packet it ≡ turns.Packet other said → it ≡ said
same_step packet other it said e = cc

same_packet : (packet other : Received) (it said : Step) → turns.Packet packet it ≡ turns.Packet other said → packet ≡ other
same_packet packet other it said e = cc

-- after the last packet nothing is done for a packet
no_packet : (packet : Received) (it : Step) (tail : Tail) → turns.Packet packet it ≡ tail_turn tail → ⊥
no_packet packet it (open_end rest) e = cc
no_packet packet it (fault refused) e = cc

-- the next packet, for which this is done
pub record IsNext (door : Door) (bytes : List ℕ) (taken : ℕ) (packet : Received) (it : Step) : Type 0 where
  pub frame : Frame
  pub more : List Frame
  pub left : drop taken (cut door bytes).packets ≡ frame ∷ more
  pub same : packet ≡ without_ask it (received (packets_of door (take taken (cut door bytes).packets)) (clear door frame))
  pub serves : ServesBy it (outcome (packets_of door (take taken (cut door bytes).packets)) (clear door frame))

pub next_is : (door : Door) (bytes : List ℕ) (taken : ℕ) (packet : Received) (it : Step) → IsTurn door bytes taken (turns.Packet packet it) → IsNext door bytes taken packet it
next_is door bytes taken packet it (inl f) =
    let came = outcome (packets_of door (take taken (cut door bytes).packets)) (clear door f.frame) in
    let whole = received (packets_of door (take taken (cut door bytes).packets)) (clear door f.frame) in
    let steps : it ≡ step_of came = same_step packet (without_ask (step_of came) whole) it (step_of came) f.is in
    record {
      frame = f.frame;
      more = f.more;
      left = f.left;
      same = same_packet packet (without_ask (step_of came) whole) it (step_of came) f.is ∙ ap (λ (s : Step). without_ask s whole) (sym steps);
      serves = subst (λ (s : Step). ServesBy s came) (sym steps) (serves_by came);
    }
next_is door bytes taken packet it (inr n) = absurd (no_packet packet it (cut door bytes).tail n.is)

-- ---- what closes a connection

closed_or : (closed : Bool) (came : Outcome) → outcome_closes (if closed then comes_to.Close else came) ≡ true → (closed || outcome_closes came) ≡ true
closed_or true came e = refl
closed_or false came e = e

open_by : (closed : Bool) (came : Outcome) → closed ≡ false → outcome_closes (if closed then comes_to.Close else came) ≡ false → (closed || outcome_closes came) ≡ false
open_by true came still e = absurd cc
open_by false came still e = e

closed_next : (earlier : List Packet) (packet : Packet) → outcome_closes (outcome earlier packet) ≡ true → is_closed (packet ∷ earlier) ≡ true
unfolding outcome is_closed
closed_next earlier packet e = closed_or (is_closed earlier) (judged_after earlier packet) e

stays_open : (earlier : List Packet) (packet : Packet) → outcome_closes (outcome earlier packet) ≡ false → is_closed earlier ≡ false → is_closed (packet ∷ earlier) ≡ false
unfolding outcome is_closed
stays_open earlier packet e still = open_by (is_closed earlier) (judged_after earlier packet) still e

closed_more : (more earlier : List Packet) → is_closed earlier ≡ true → is_closed (more ++ earlier) ≡ true
unfolding is_closed
closed_more [] earlier e = e
closed_more (packet ∷ more) earlier e = rw (closed_more more earlier e) refl

or_true : (b : Bool) → (b || true) ≡ true
or_true true = refl
or_true false = refl

-- a packet is there only where bytes are
pub some_bytes : (door : Door) (bytes : List ℕ) (taken : ℕ) → taken < length (cut door bytes).packets → 0 < length bytes
unfolding cut cut_within
some_bytes door [] taken some = absurd (omega (arith, some))
some_bytes door (byte ∷ bytes) taken some = omega arith

some_left : (door : Door) (bytes : List ℕ) (taken : ℕ) (frame : Frame) (more : List Frame) → left_of door bytes taken ≡ frame ∷ more → 0 < length bytes
some_left door bytes taken frame more left =
    let long = length-drop taken (cut door bytes).packets in let first = ap length left in some_bytes door bytes taken (omega (arith, long, first))

-- the bytes of which some packet closes the connection do
closes_at : (door : Door) (bytes : List ℕ) (taken : ℕ) (frame : Frame) (more : List Frame) → left_of door bytes taken ≡ frame ∷ more → is_closed (clear door frame ∷ taken_of door bytes taken) ≡ true → closes door bytes ≡ true
closes_at door bytes taken frame more left e =
    let front = take taken (cut door bytes).packets in
    let parts : (cut door bytes).packets ≡ front ++ frame ∷ more = sym (take-append-drop taken (cut door bytes).packets) ∙ ap (λ (l : List Frame). front ++ l) left in
    let history : packets_of door (cut door bytes).packets ≡ packets_of door more ++ clear door frame ∷ packets_of door front =
    ap (packets_of door) parts ∙ packets_of-append door front (frame ∷ more) ∙ ap (λ (l : List Packet). l ++ packets_of door front) (packets_of-append door (frame ∷ []) more)
    ∙ append_assoc (packets_of door more) (clear door frame ∷ []) (packets_of door front) in
    ap (λ (l : List Packet). is_closed l || closed_by (cut door bytes).tail) history
    ∙ ap (λ (b : Bool). b || closed_by (cut door bytes).tail) (closed_more (packets_of door more) (clear door frame ∷ packets_of door front) e)

-- ---- one packet

module _ (door : Door) (earlier : List Packet) (frame : Frame) where
  served_first : (more : List Frame) (answers : List Answer)
      → served_to door earlier (frame ∷ more) answers ≡ served_for (outcome earlier (clear door frame)) answers (λ left. served_to door (clear door frame ∷ earlier) more left)
  unfolding served_to
  served_first more answers = refl

  pub asks_first : (more : List Frame) → asks_in door earlier (frame ∷ more) ≡ asked_by (outcome earlier (clear door frame)) (asks_in door (clear door frame ∷ earlier) more)
  unfolding asks_in
  asks_first more = refl

  notices_first : (more : List Frame) (tail : Tail) (answers : List Answer)
      → notices_to door earlier (frame ∷ more) tail answers
      ≡ notices_for (received earlier (clear door frame)) (outcome earlier (clear door frame)) answers (λ left. notices_to door (clear door frame ∷ earlier) more tail left)
  unfolding notices_to
  notices_first more tail answers = refl

  -- a packet is sent for it and told, after which the connection closes or not
  pub record IsSaid (made : List Exchange) (sending : Sending) (notice : Notice) (ends : Bool) : Type 0 where
    pub served : (more : List Frame) (later : List Answer)
        → served_to door earlier (frame ∷ more) (answers_of made ++ later) ≡ sending ∷ (if ends then [] else served_to door (clear door frame ∷ earlier) more later)
    pub asks : (more : List Frame) → asks_in door earlier (frame ∷ more) ≡ asks_of made ++ (if ends then [] else asks_in door (clear door frame ∷ earlier) more)
    pub carries : carried (sending ∷ []) ≡ answers_of made
    pub closing : outcome_closes (outcome earlier (clear door frame)) ≡ ends
    pub tells : (more : List Frame) (tail : Tail) (later : List Answer)
        → notices_to door earlier (frame ∷ more) tail (answers_of made ++ later) ≡ notice ∷ (if ends then [] else notices_to door (clear door frame ∷ earlier) more tail later)
    pub bytes : bytes_told door (notice ∷ []) ≡ bytes_sent door (sending ∷ [])

  said_plain : (reply : ReplyValue) (ends : Bool) → ServesBy (Reply reply ends) (outcome earlier (clear door frame)) → IsSaid [] (plain reply) (replied (received earlier (clear door frame)) reply) ends
  said_plain reply ends s = record {
    served = λ more later. served_first more later ∙ s.0 later (λ left. served_to door (clear door frame ∷ earlier) more left);
    asks = λ more. asks_first more ∙ s.1 (asks_in door (clear door frame ∷ earlier) more);
    carries = refl;
    closing = s.2;
    tells = λ more tail later. notices_first more tail later ∙ s.3 (received earlier (clear door frame)) later (λ left. notices_to door (clear door frame ∷ earlier) more tail left);
    bytes = refl;
  }

  said_answer : (exchange : Exchange) (slot : Slot) → outcome earlier (clear door frame) ≡ comes_to.Asks exchange.ask slot
      → IsSaid (exchange ∷ []) (carrying slot exchange.answer) (replied (received earlier (clear door frame)) (reply_in slot (answer_body exchange.answer))) (not slot.single)
  said_answer exchange slot came = by_single slot.single refl
    where
      by_single : (single : Bool) → slot.single ≡ single
          → IsSaid (exchange ∷ []) (carrying slot exchange.answer) (replied (received earlier (clear door frame)) (reply_in slot (answer_body exchange.answer))) (not slot.single)
      by_single true e = record {
        served = λ more later. served_first more (exchange.answer ∷ later) ∙ rw (came, e) refl;
        asks = λ more. asks_first more ∙ rw (came, e) refl;
        carries = refl;
        closing = rw came refl;
        tells = λ more tail later. notices_first more tail (exchange.answer ∷ later) ∙ rw (came, e) refl;
        bytes = refl;
      }
      by_single false e = record {
        served = λ more later. served_first more (exchange.answer ∷ later) ∙ rw (came, e) refl;
        asks = λ more. asks_first more ∙ rw (came, e) refl;
        carries = refl;
        closing = rw came refl;
        tells = λ more tail later. notices_first more tail (exchange.answer ∷ later) ∙ rw (came, e) refl;
        bytes = refl;
      }

  -- nothing is sent for it
  handled_silent : outcome earlier (clear door frame) ≡ comes_to.Silent → Handled door earlier (frame ∷ []) [] [] (unreplied (received earlier (clear door frame)) ∷ [])
  handled_silent came = record {
    served = λ more later. served_first more later ∙ rw came refl;
    asks = λ more. asks_first more ∙ rw came refl;
    carries = refl;
    tells = λ more tail later. notices_first more tail later ∙ rw came refl;
    bytes = refl;
  }

-- ---- no packet

pub served_at_end : (door : Door) (earlier : List Packet) (answers : List Answer) → served_to door earlier [] answers ≡ []
unfolding served_to
served_at_end door earlier answers = refl

pub asks_at_end : (door : Door) (earlier : List Packet) → asks_in door earlier [] ≡ []
unfolding asks_in
asks_at_end door earlier = refl

pub notices_at_end : (door : Door) (earlier : List Packet) (tail : Tail) (answers : List Answer) → notices_to door earlier [] tail answers ≡ notices_at tail
unfolding notices_to
notices_at_end door earlier tail answers = refl

pub none_at_end : (door : Door) (earlier : List Packet) (tail : Tail) (answers : List Answer) → closed_by tail ≡ false → notices_to door earlier [] tail answers ≡ []
none_at_end door earlier (open_end rest) answers e = notices_at_end door earlier (open_end rest) answers
none_at_end door earlier (fault refused) answers e = absurd cc

-- ---- ends

abbrev pub worker : {S V : Type 0} → S → V → Worker S V
worker caller witness = record { caller = caller; witness = witness }

module _ {S V : Type 0} (step : S → Exchange → S → Type 0) (rests : S → S → Type 0) (refuses : S → Ask → HallFault → Type 0) (takes refuses_notice : V → Notice → V → Type 0) (door : Door) (earlier : List Packet) (frames : List Frame) (tail : Tail) where
  abbrev IsDone : End → S → V → S → V → Option (List ℕ) → Option (List ℕ) → Type 0
  IsDone end was seen now sees old new = Done step rests refuses takes refuses_notice door end earlier frames tail (worker was seen) (worker now sees) old new

  -- nothing was done for what is left, because memory ran out
  pub done_memory : (was now : S) (seen : V) (old : Option (List ℕ)) → rests was now → IsDone Memory was seen now seen old old
  done_memory was now seen old rested = record {
    ends = record {
      made = [];
      makes = (was, refl, rested);
      left = asks_in door earlier frames;
      asks = refl;
      leaves = tt;
      writes = record { first = []; others = served_to door earlier frames []; parts = refl; carries = refl; written = Appends-nil old };
    };
    told = record { told = []; left = notices_to door earlier frames tail []; parts = refl; takes = (seen, refl, refl); leaves = tt; writes = Appends-nil old };
  }

  -- nothing is sent for what is left, and nothing is asked, though this may be told
  pub done_none : (end : End) (was now : S) (seen sees : V) (told : List Notice) (old new : Option (List ℕ)) → rests was now → asks_in door earlier frames ≡ [] → served_to door earlier frames [] ≡ []
      → notices_to door earlier frames tail [] ≡ told → AreTold takes seen told sees → bytes_told door told ≡ [] → Appends old new []
      → Leaves end (refuses now) [] → (Appends old new [] → Writes end door [] [] old new)
      → refused_of end [] ≡ None → LeavesUntold end []
      → IsDone end was seen now sees old new
  done_none end was now seen sees told old new rested none nothing these took silent written leaves writes unrefused untold = record {
    ends = record {
      made = [];
      makes = (was, refl, rested);
      left = [];
      asks = none;
      leaves = leaves;
      writes = rw nothing (writes written);
    };
    told = record {
      told = told;
      left = [];
      parts = these ∙ sym (append-nil told);
      takes = rw unrefused (sees, took, refl);
      leaves = untold;
      writes = rw silent written;
    };
  }

  -- the next ask wasn't called
  module _ (ask : Ask) (later : List Ask) (was now : S) (seen : V) (old : Option (List ℕ)) (rested : rests was now) (first : asks_in door earlier frames ≡ ask ∷ later)
      (nothing : served_to door earlier frames [] ≡ []) (none : notices_to door earlier frames tail [] ≡ []) where
    uncalled : (end : End) → Leaves end (refuses now) (ask ∷ later) → (Appends old old [] → Writes end door [] [] old old)
        → refused_of end [] ≡ None → LeavesUntold end [] → IsDone end was seen now seen old old
    uncalled end leaves writes unrefused untold = record {
      ends = record { made = []; makes = (was, refl, rested); left = ask ∷ later; asks = first; leaves = leaves; writes = rw nothing (writes (Appends-nil old)) };
      told = record { told = []; left = []; parts = none; takes = rw unrefused (seen, refl, refl); leaves = untold; writes = Appends-nil old };
    }

    pub done_uncalled : (end : End) → IsUncalled (refuses now) ask end → IsDone end was seen now seen old old
    done_uncalled Finished u = absurd u
    done_uncalled ByProtocol u = absurd u
    done_uncalled Stopped u = uncalled Stopped u (λ w. w) refl refl
    done_uncalled LogFull u = uncalled LogFull u (λ w. w) refl refl
    done_uncalled Memory u = done_memory was now seen old rested
    done_uncalled ReadFault u = absurd u
    done_uncalled Unwitnessed u = absurd u
    done_uncalled NoSeat u = uncalled NoSeat u (λ w. w) refl refl

  -- the witness refused the next notice
  pub done_unwitnessed : (made : List Exchange) (next others : List Sending) (left : List Ask) (notice : Notice) (later : List Notice) (was now : S) (seen sees : V) (old new : Option (List ℕ)) → AreAllMade step rests was made now
      → served_to door earlier frames (answers_of made) ≡ next ++ others → length next ≤ 1 → carried next ≡ answers_of made
      → asks_in door earlier frames ≡ asks_of made ++ left → notices_to door earlier frames tail (answers_of made) ≡ notice ∷ later → refuses_notice seen notice sees → Appends old new []
      → IsDone Unwitnessed was seen now sees old new
  done_unwitnessed made next others left notice later was now seen sees old new had serves one carries asks tells refused written = record {
    ends = record {
      made = made;
      makes = had;
      left = left;
      asks = asks;
      leaves = tt;
      writes = record { first = []; next = next; others = others; parts = serves; one = one; carries = carries; written = written };
    };
    told = record { told = []; left = notice ∷ later; parts = tells; takes = (seen, refl, refused); leaves = omega arith; writes = written };
  }

module _ (refuses : Ask → HallFault → Type 0) (ask : Ask) where
  uncalled_unfinished : (end : End) → IsUncalled refuses ask end → end ≡ Finished → ⊥
  uncalled_unfinished Finished u e = u
  uncalled_unfinished ByProtocol u e = u
  uncalled_unfinished Stopped u e = cc
  uncalled_unfinished LogFull u e = cc
  uncalled_unfinished Memory u e = cc
  uncalled_unfinished ReadFault u e = u
  uncalled_unfinished Unwitnessed u e = u
  uncalled_unfinished NoSeat u e = cc

  uncalled_closing : (end : End) (closing : Bool) → IsUncalled refuses ask end → Closes end closing
  uncalled_closing Finished closing u = absurd u
  uncalled_closing ByProtocol closing u = absurd u
  uncalled_closing Stopped closing u = tt
  uncalled_closing LogFull closing u = tt
  uncalled_closing Memory closing u = tt
  uncalled_closing ReadFault closing u = absurd u
  uncalled_closing Unwitnessed closing u = tt
  uncalled_closing NoSeat closing u = tt

-- ---- one packet that is told, and written

-- the reply that is written is the one that was told
pub same_reply : (said reply : ReplyValue) → ◌≡◌ {A = Option ReplyValue} (Some said) (Some reply) → reply ≡ said
same_reply said reply e = cc

-- what is so where the notice was taken and the connection stays open, where it was and the
-- connection closes, and where it was refused, is so
noted : (P : Result Went End → Type 0) (result : Result Went End) (takes refuses : Type 0) (closing : Bool) → Notes result takes refuses closing
    → (closing ≡ false → takes → P (Ok On)) → (closing ≡ true → takes → P (Err ByProtocol)) → (refuses → P (Err Unwitnessed)) → P result
noted P (Ok On) takes refuses closing n on shut untold = on n.1 n.0
noted P (Ok Rests) takes refuses closing n on shut untold = absurd n
noted P (Err Finished) takes refuses closing n on shut untold = absurd n
noted P (Err ByProtocol) takes refuses closing n on shut untold = shut n.1 n.0
noted P (Err Stopped) takes refuses closing n on shut untold = absurd n
noted P (Err LogFull) takes refuses closing n on shut untold = absurd n
noted P (Err Memory) takes refuses closing n on shut untold = absurd n
noted P (Err ReadFault) takes refuses closing n on shut untold = absurd n
noted P (Err Unwitnessed) takes refuses closing n on shut untold = untold n
noted P (Err NoSeat) takes refuses closing n on shut untold = absurd n

-- the notice was taken, and then the reply was written
pub answered : (result : Result Went End) (takes refuses : Type 0) (reply : List ℕ) (closing : Bool) (old new : Option (List ℕ)) → takes → Replies result reply closing old new → Answers result takes refuses reply closing old new
answered (Ok went) takes refuses reply closing old new t r = (t, r)
answered (Err Finished) takes refuses reply closing old new t r = absurd r
answered (Err ByProtocol) takes refuses reply closing old new t r = (t, r)
answered (Err Stopped) takes refuses reply closing old new t r = absurd r
answered (Err LogFull) takes refuses reply closing old new t r = absurd r
answered (Err Memory) takes refuses reply closing old new t r = absurd r
answered (Err ReadFault) takes refuses reply closing old new t r = absurd r
answered (Err Unwitnessed) takes refuses reply closing old new t r = absurd r
answered (Err NoSeat) takes refuses reply closing old new t r = absurd r

module _ {S V : Type 0} (step : S → Exchange → S → Type 0) (rests : S → S → Type 0) (rests_so : (x : S) → rests x x) (refuses : S → Ask → HallFault → Type 0) (takes refuses_notice : V → Notice → V → Type 0)
    (door : Door) (earlier : List Packet) (frame : Frame) (made : List Exchange) (sending : Sending) (notice : Notice)
    (was now : S) (seen sees : V) (old new : Option (List ℕ)) (had : AreMade step was made now) where
  -- the packet was told and written, and the connection stays open
  goes_said : IsSaid door earlier frame made sending notice false → takes seen notice sees → Appends old new (sent door sending.packet) → GoesOn step takes door earlier (frame ∷ []) (worker was seen) (worker now sees) old new
  goes_said s took written = record {
    made = made;
    sendings = sending ∷ [];
    notices = notice ∷ [];
    handled = record { served = s.served; asks = s.asks; carries = s.carries; tells = s.tells; bytes = s.bytes };
    makes = had;
    told = (sees, took, refl);
    written = rw (append-nil (sent door sending.packet)) written;
  }

  module _ (more : List Frame) (tail : Tail) (ends : Bool) (s : IsSaid door earlier frame made sending notice ends) where
    later : List Sending
    later = if ends then [] else served_to door (clear door frame ∷ earlier) more []

    to_tell : List Notice
    to_tell = if ends then [] else notices_to door (clear door frame ∷ earlier) more tail []

    to_ask : List Ask
    to_ask = if ends then [] else asks_in door (clear door frame ∷ earlier) more

    whole : served_to door earlier (frame ∷ more) (answers_of made) ≡ sending ∷ later
    unfolding later
    whole = ap (λ (l : List Answer). served_to door earlier (frame ∷ more) l) (sym (append-nil (answers_of made))) ∙ s.served more []

    tells_whole : notices_to door earlier (frame ∷ more) tail (answers_of made) ≡ notice ∷ to_tell
    unfolding to_tell
    tells_whole = ap (λ (l : List Answer). notices_to door earlier (frame ∷ more) tail l) (sym (append-nil (answers_of made))) ∙ s.tells more tail []

    asks_whole : asks_in door earlier (frame ∷ more) ≡ asks_of made ++ to_ask
    unfolding to_ask
    asks_whole = s.asks more

    bytes_whole : bytes_told door (notice ∷ []) ≡ sent door sending.packet
    bytes_whole = s.bytes ∙ append-nil (sent door sending.packet)

    -- the witness refused it
    done_refused : refuses_notice seen notice sees → Appends old new [] → IsDone step rests refuses takes refuses_notice door earlier (frame ∷ more) tail Unwitnessed was seen now sees old new
    done_refused refused written =
        done_unwitnessed step rests refuses takes refuses_notice door earlier (frame ∷ more) tail made (sending ∷ []) later to_ask notice to_tell was now seen sees old new (now, had, rests_so now) whole (omega arith) s.carries asks_whole tells_whole refused written

  -- it was told and written, and the connection closes
  done_said : (more : List Frame) (tail : Tail) → IsSaid door earlier frame made sending notice true → takes seen notice sees → Appends old new (sent door sending.packet)
      → IsDone step rests refuses takes refuses_notice door earlier (frame ∷ more) tail ByProtocol was seen now sees old new
  unfolding later to_tell to_ask
  done_said more tail s took written = record {
    ends = record {
      made = made;
      makes = (now, had, rests_so now);
      left = [];
      asks = asks_whole more tail true s;
      leaves = refl;
      writes = rw (whole more tail true s, append-nil (sent door sending.packet)) written;
    };
    told = record {
      told = notice ∷ [];
      left = [];
      parts = tells_whole more tail true s;
      takes = (sees, (sees, took, refl), refl);
      leaves = refl;
      writes = rw (bytes_whole more tail true s) written;
    };
  }

-- ---- a turn

module _ {S V : Type 0} (step : S → Exchange → S → Type 0) (rests : S → S → Type 0) (rests_so : (x : S) → rests x x) (refuses : S → Ask → HallFault → Type 0) (takes refuses_notice : V → Notice → V → Type 0) (door : Door) (bytes : List ℕ) (taken : ℕ) where
  abbrev Turns : Result Went End → S → V → S → V → Option (List ℕ) → Option (List ℕ) → Stream → Type 0
  Turns result was seen now sees old new stream = Turned step rests refuses takes refuses_notice result door bytes taken (worker was seen) (worker now sees) old new stream

  abbrev EndsNow : End → S → V → S → V → Option (List ℕ) → Option (List ℕ) → Type 0
  EndsNow end was seen now sees old new =
      Done step rests refuses takes refuses_notice door end (packets_of door (take taken (cut door bytes).packets)) (drop taken (cut door bytes).packets) (cut door bytes).tail (worker was seen) (worker now sees) old new

  abbrev EndsFrom : List Frame → End → S → V → S → V → Option (List ℕ) → Option (List ℕ) → Type 0
  EndsFrom frames end was seen now sees old new =
      Done step rests refuses takes refuses_notice door end (packets_of door (take taken (cut door bytes).packets)) frames (cut door bytes).tail (worker was seen) (worker now sees) old new

  -- what is done for the packets that are left
  ends_now : (frames : List Frame) (end : End) (was now : S) (seen sees : V) (old new : Option (List ℕ)) → drop taken (cut door bytes).packets ≡ frames → EndsFrom frames end was seen now sees old new → EndsNow end was seen now sees old new
  ends_now frames end was now seen sees old new left d = subst (λ (fs : List Frame). EndsFrom fs end was seen now sees old new) (sym left) d

  -- the turn's packet is answered by this
  module _ (frame : Frame) (more : List Frame) (left : drop taken (cut door bytes).packets ≡ frame ∷ more) (made : List Exchange) (sending : Sending) (notice : Notice) (was now : S) (seen sees : V)
      (old new : Option (List ℕ)) (stream : Stream) (had : AreMade step was made now) where
    said_on : (ends : Bool) → IsSaid door (packets_of door (take taken (cut door bytes).packets)) frame made sending notice ends → takes seen notice sees → ends ≡ false → Appends old new (sent door sending.packet)
        → closed_of stream ≡ ends → pending_of stream ≡ None → Stands door stream bytes (suc taken) → Turns (Ok On) was seen now sees old new stream
    said_on ends s took goes written closed free stands = record {
      frame = frame;
      more = more;
      left = left;
      goes = goes_said step rests rests_so refuses takes refuses_notice door _ frame made sending notice was now seen sees old new had (rw goes at s) took written;
      stays = stays_open _ _ (s.closing ∙ goes);
      ready = (closed ∙ goes, free);
      stands = stands;
    }

    said_last : (ends : Bool) → IsSaid door (packets_of door (take taken (cut door bytes).packets)) frame made sending notice ends → takes seen notice sees → ends ≡ true → Appends old new (sent door sending.packet)
        → Turns (Err ByProtocol) was seen now sees old new stream
    said_last ends s took shuts written =
        let d = ends_now (frame ∷ more) ByProtocol was now seen sees old new left
        (done_said step rests rests_so refuses takes refuses_notice door _ frame made sending notice was now seen sees old new had more (cut door bytes).tail (rw shuts at s) took written) in
        record {
          unfinished = λ e. cc;
          memory = λ e. absurd cc;
          closing = closes_at door bytes taken frame more left (closed_next _ _ (s.closing ∙ shuts));
          ends = d.ends;
          told = d.told;
        }

    unsaid : (ends : Bool) → IsSaid door (packets_of door (take taken (cut door bytes).packets)) frame made sending notice ends → refuses_notice seen notice sees → Appends old new []
        → Turns (Err Unwitnessed) was seen now sees old new stream
    unsaid ends s refused written =
        let d = ends_now (frame ∷ more) Unwitnessed was now seen sees old new left
        (done_refused step rests rests_so refuses takes refuses_notice door _ frame made sending notice was now seen sees old new had more (cut door bytes).tail ends s refused written) in
        record { unfinished = λ e. cc; memory = λ e. absurd cc; closing = tt; ends = d.ends; told = d.told }

    replied_to : (result : Result Went End) (ends : Bool) → IsSaid door (packets_of door (take taken (cut door bytes).packets)) frame made sending notice ends
        → Answers result (takes seen notice sees) (refuses_notice seen notice sees) (sent door sending.packet) ends old new
        → closed_of stream ≡ ends → pending_of stream ≡ None → Stands door stream bytes (suc taken) → Turns result was seen now sees old new stream
    replied_to (Ok On) ends s r closed free stands = said_on ends s r.0 r.1.0 r.1.1 closed free stands
    replied_to (Ok Rests) ends s r closed free stands = absurd r.1
    replied_to (Err Finished) ends s r closed free stands = absurd r.1
    replied_to (Err ByProtocol) ends s r closed free stands = said_last ends s r.0 r.1.0 r.1.1
    replied_to (Err Stopped) ends s r closed free stands = absurd r.1
    replied_to (Err LogFull) ends s r closed free stands = absurd r.1
    replied_to (Err Memory) ends s r closed free stands = absurd r.1
    replied_to (Err ReadFault) ends s r closed free stands = absurd r.1
    replied_to (Err Unwitnessed) ends s r closed free stands = unsaid ends s r.0 r.1
    replied_to (Err NoSeat) ends s r closed free stands = absurd r.1

  -- a reply is sent
  pub turned_reply : (was : S) (seen sees : V) (old new : Option (List ℕ)) (stream : Stream) (packet : Received) (reply : ReplyValue) (ends : Bool) (result : Result Went End)
      → IsTurn door bytes taken (turns.Packet packet (Reply reply ends))
      → Answers result (takes seen (replied packet reply) sees) (refuses_notice seen (replied packet reply) sees) (sent door (packet_of reply)) ends old new
      → closed_of stream ≡ ends → pending_of stream ≡ None → Stands door stream bytes (suc taken) → Turns result was seen was sees old new stream
  turned_reply was seen sees old new stream packet reply ends result turn r closed free stands =
      let f = next_is door bytes taken packet (Reply reply ends) turn in
      replied_to f.frame f.more f.left [] (plain reply) (replied (received (packets_of door (take taken (cut door bytes).packets)) (clear door f.frame)) reply) was was seen sees old new stream refl result ends (said_plain door _ f.frame reply ends f.serves)
      (subst (λ (p : Received). Answers result (takes seen (replied p reply) sees) (refuses_notice seen (replied p reply) sees) (sent door (packet_of reply)) ends old new) f.same r) closed free stands

  -- the desk has answered
  pub turned_answer : (was now : S) (seen sees : V) (old new : Option (List ℕ)) (stream : Stream) (packet whole : Received) (ask : Ask) (slot : Slot) (segment place : ℕ) (answer : Answer) (given : ReplyValue × Bool) (result : Result Went End)
      → IsTurn door bytes taken (turns.Packet packet (Asks ask slot)) → whole ≡ with_ask ask packet → ((earlier : List Packet) (it : Packet) → IsWholeWith ask slot earlier it) → step was (record { ask = ask; segment = segment; place = place; answer = answer }) now → given ≡ (reply_in slot (answer_body answer), not slot.single)
      → Answers result (takes seen (replied whole given.0) sees) (refuses_notice seen (replied whole given.0) sees) (sent door (packet_of given.0)) given.1 old new
      → closed_of stream ≡ given.1 → pending_of stream ≡ None → Stands door stream bytes (suc taken) → Turns result was seen now sees old new stream
  turned_answer was now seen sees old new stream packet whole ask slot segment place answer given result turn joined law had gave r closed free stands =
      let exchange : Exchange = record { ask = ask; segment = segment; place = place; answer = answer } in
      let f = next_is door bytes taken packet (Asks ask slot) turn in
      let reply = reply_in slot (answer_body answer) in
      let earlier = packets_of door (take taken (cut door bytes).packets) in
      let same : whole ≡ received earlier (clear door f.frame) = joined ∙ ap (with_ask ask) f.same ∙ law earlier (clear door f.frame) f.serves in
      replied_to f.frame f.more f.left (exchange ∷ []) (carrying slot answer) (replied (received (packets_of door (take taken (cut door bytes).packets)) (clear door f.frame)) reply) was now seen sees old new stream (now, had, refl) result (not slot.single)
      (said_answer door _ f.frame exchange slot f.serves)
      (subst (λ (p : Received). Answers result (takes seen (replied p reply) sees) (refuses_notice seen (replied p reply) sees) (sent door (packet_of reply)) (not slot.single) old new) same
      (subst (λ (p : ReplyValue × Bool). Answers result (takes seen (replied whole p.0) sees) (refuses_notice seen (replied whole p.0) sees) (sent door (packet_of p.0)) p.1 old new) gave r))
      (closed ∙ ap (λ (p : ReplyValue × Bool). p.1) gave) free stands

  -- it wasn't asked
  turned_uncalled : (was now : S) (seen : V) (old : Option (List ℕ)) (stream : Stream) (packet : Received) (ask : Ask) (slot : Slot) (end : End) → IsNext door bytes taken packet (Asks ask slot) → rests was now
      → IsUncalled (refuses now) ask end → Turns (Err end) was seen now seen old old stream
  turned_uncalled was now seen old stream packet ask slot end f rested u =
      let came = f.serves in
      let d = ends_now (f.frame ∷ f.more) end was now seen seen old old f.left
      (done_uncalled step rests refuses takes refuses_notice door _ (f.frame ∷ f.more) (cut door bytes).tail ask (if slot.single then asks_in door (clear door f.frame ∷ taken_of door bytes taken) f.more else []) was now seen old rested
      (asks_first door (packets_of door (take taken (cut door bytes).packets)) f.frame f.more ∙ rw came refl)
      (served_first door _ f.frame f.more [] ∙ rw came refl)
      (notices_first door _ f.frame f.more (cut door bytes).tail [] ∙ rw came refl) end u) in
      record {
        unfinished = uncalled_unfinished (refuses now) ask end u;
        memory = λ e. some_left door bytes taken f.frame f.more f.left;
        closing = uncalled_closing (refuses now) ask end (closes door bytes) u;
        ends = d.ends;
        told = d.told;
      }

  pub turned_refusal : (was now : S) (seen : V) (old : Option (List ℕ)) (stream : Stream) (packet : Received) (ask : Ask) (slot : Slot) (result : Result Went End) (end : End) → IsTurn door bytes taken (turns.Packet packet (Asks ask slot))
      → rests was now → IsUncalled (refuses now) ask end → IsErrAnd result (λ told. told ≡ end) → Turns result was seen now seen old old stream
  turned_refusal was now seen old stream packet ask slot (Ok went) end turn rested u told = absurd told
  turned_refusal was now seen old stream packet ask slot (Err other) end turn rested u told =
      rw told (turned_uncalled was now seen old stream packet ask slot end (next_is door bytes taken packet (Asks ask slot) turn) rested u)

  -- nothing is sent
  goes_silent : (was : S) (seen sees : V) (old : Option (List ℕ)) (stream : Stream) (packet : Received) → IsNext door bytes taken packet Silent → takes seen (unreplied packet) sees
      → closed_of stream ≡ false → pending_of stream ≡ None → Stands door stream bytes (suc taken) → Turns (Ok On) was seen was sees old old stream
  goes_silent was seen sees old stream packet f took closed free stands = record {
    frame = f.frame;
    more = f.more;
    left = f.left;
    goes = record {
      made = [];
      sendings = [];
      notices = unreplied (received (packets_of door (take taken (cut door bytes).packets)) (clear door f.frame)) ∷ [];
      handled = handled_silent door _ f.frame f.serves;
      makes = refl;
      told = (sees, rw f.same at took, refl);
      written = Appends-nil old;
    };
    stays = stays_open _ _ (rw f.serves refl);
    ready = (closed, free);
    stands = stands;
  }

  -- a packet closes the connection without a reply
  closes_packet : (was : S) (seen sees : V) (old : Option (List ℕ)) (stream : Stream) (packet : Received) → IsNext door bytes taken packet Close → takes seen (unreplied packet) sees
      → Turns (Err ByProtocol) was seen was sees old old stream
  closes_packet was seen sees old stream packet f took =
      let d = ends_now (f.frame ∷ f.more) ByProtocol was was seen sees old old f.left
      (done_none step rests refuses takes refuses_notice door _ (f.frame ∷ f.more) (cut door bytes).tail ByProtocol was was seen sees (unreplied (received (packets_of door (take taken (cut door bytes).packets)) (clear door f.frame)) ∷ []) old old (rests_so was)
      (asks_first door _ f.frame f.more ∙ rw f.serves refl) (served_first door _ f.frame f.more [] ∙ rw f.serves refl) (notices_first door _ f.frame f.more (cut door bytes).tail [] ∙ rw f.serves refl)
      (sees, rw f.same at took, refl) refl (Appends-nil old) refl (λ w. w) refl refl) in
      record {
        unfinished = λ e. cc;
        memory = λ e. absurd cc;
        closing = closes_at door bytes taken f.frame f.more f.left (closed_next _ _ (rw f.serves refl));
        ends = d.ends;
        told = d.told;
      }

  -- the witness refused the notice of a packet that has no reply
  unwitnessed : (was : S) (seen sees : V) (old : Option (List ℕ)) (stream : Stream) (frames : List Frame) (notice : Notice) (later : List Notice) → drop taken (cut door bytes).packets ≡ frames
      → notices_to door (packets_of door (take taken (cut door bytes).packets)) frames (cut door bytes).tail [] ≡ notice ∷ later → refuses_notice seen notice sees → Turns (Err Unwitnessed) was seen was sees old old stream
  unwitnessed was seen sees old stream frames notice later left tells refused =
      let d = ends_now frames Unwitnessed was was seen sees old old left
      (done_unwitnessed step rests refuses takes refuses_notice door _ frames (cut door bytes).tail [] [] (served_to door (packets_of door (take taken (cut door bytes).packets)) frames []) (asks_in door (packets_of door (take taken (cut door bytes).packets)) frames) notice later was was seen sees old old
      (was, refl, rests_so was) refl (omega arith) refl refl tells refused (Appends-nil old)) in
      record { unfinished = λ e. cc; memory = λ e. absurd cc; closing = tt; ends = d.ends; told = d.told }

  refuses_silent : (was : S) (seen sees : V) (old : Option (List ℕ)) (stream : Stream) (packet : Received) → IsNext door bytes taken packet Silent → refuses_notice seen (unreplied packet) sees → Turns (Err Unwitnessed) was seen was sees old old stream
  refuses_silent was seen sees old stream packet f refused =
      unwitnessed was seen sees old stream (f.frame ∷ f.more) (unreplied packet) (notices_to door (clear door f.frame ∷ packets_of door (take taken (cut door bytes).packets)) f.more (cut door bytes).tail []) f.left
      (notices_first door _ f.frame f.more (cut door bytes).tail [] ∙ rw (f.serves, f.same) refl) refused

  refuses_close : (was : S) (seen sees : V) (old : Option (List ℕ)) (stream : Stream) (packet : Received) → IsNext door bytes taken packet Close → refuses_notice seen (unreplied packet) sees → Turns (Err Unwitnessed) was seen was sees old old stream
  refuses_close was seen sees old stream packet f refused =
      unwitnessed was seen sees old stream (f.frame ∷ f.more) (unreplied packet) [] f.left (notices_first door _ f.frame f.more (cut door bytes).tail [] ∙ rw (f.serves, f.same) refl) refused

  -- a packet has no reply
  pub turned_silent : (was : S) (seen sees : V) (old : Option (List ℕ)) (stream : Stream) (packet : Received) (result : Result Went End) → IsTurn door bytes taken (turns.Packet packet Silent)
      → Notes result (takes seen (unreplied packet) sees) (refuses_notice seen (unreplied packet) sees) false
      → closed_of stream ≡ false → pending_of stream ≡ None → Stands door stream bytes (suc taken) → Turns result was seen was sees old old stream
  turned_silent was seen sees old stream packet result turn n closed free stands =
      let f = next_is door bytes taken packet Silent turn in
      noted (λ r. Turns r was seen was sees old old stream) result _ _ false n (λ e took. goes_silent was seen sees old stream packet f took closed free stands) (λ e took. absurd cc)
      (λ refused. refuses_silent was seen sees old stream packet f refused)

  pub turned_close : (was : S) (seen sees : V) (old : Option (List ℕ)) (stream : Stream) (packet : Received) (result : Result Went End) → IsTurn door bytes taken (turns.Packet packet Close)
      → Notes result (takes seen (unreplied packet) sees) (refuses_notice seen (unreplied packet) sees) true → Turns result was seen was sees old old stream
  turned_close was seen sees old stream packet result turn n =
      let f = next_is door bytes taken packet Close turn in
      noted (λ r. Turns r was seen was sees old old stream) result _ _ true n (λ e took. absurd cc) (λ e took. closes_packet was seen sees old stream packet f took)
      (λ refused. refuses_close was seen sees old stream packet f refused)

  -- a header is refused
  pub record IsBadTail (header : Header) : Type 0 where
    pub left : drop taken (cut door bytes).packets ≡ []
    pub shut : closed_by (cut door bytes).tail ≡ true
    pub notice : notices_at (cut door bytes).tail ≡ notices.BadHeader header ∷ []

  bad_tail : (header : Header) → IsTurn door bytes taken (turns.Refused header) → IsBadTail header
  bad_tail header (inl f) = absurd (by_packet f.is)
    where
      by_packet : {packet : Received} {it : Step} → turns.Refused header ≡ turns.Packet packet it → ⊥
      by_packet e = cc
  bad_tail header (inr n) = record { left = n.left; shut = shut_by (cut door bytes).tail n.is; notice = notice_by (cut door bytes).tail n.is }
    where
      shut_by : (tail : Tail) → turns.Refused header ≡ tail_turn tail → closed_by tail ≡ true
      shut_by (open_end rest) e = cc
      shut_by (fault refused) e = refl

      notice_by : (tail : Tail) → turns.Refused header ≡ tail_turn tail → notices_at tail ≡ notices.BadHeader header ∷ []
      notice_by (open_end rest) e = absurd cc
      notice_by (fault refused) e = let same : header ≡ refused.header = cc in rw same refl

  closes_tail : (was : S) (seen sees : V) (old : Option (List ℕ)) (stream : Stream) (header : Header) → IsBadTail header → takes seen (notices.BadHeader header) sees → Turns (Err ByProtocol) was seen was sees old old stream
  closes_tail was seen sees old stream header b took =
      let d = ends_now [] ByProtocol was was seen sees old old b.left
      (done_none step rests refuses takes refuses_notice door _ [] (cut door bytes).tail ByProtocol was was seen sees (notices.BadHeader header ∷ []) old old (rests_so was)
      (asks_at_end door _) (served_at_end door _ []) (notices_at_end door _ (cut door bytes).tail [] ∙ b.notice) (sees, took, refl) refl (Appends-nil old) refl (λ w. w) refl refl) in
      record {
        unfinished = λ e. cc;
        memory = λ e. absurd cc;
        closing = ap (λ (c : Bool). is_closed (packets_of door (cut door bytes).packets) || c) b.shut ∙ or_true (is_closed (packets_of door (cut door bytes).packets));
        ends = d.ends;
        told = d.told;
      }

  pub turned_bad_header : (was : S) (seen sees : V) (old : Option (List ℕ)) (stream : Stream) (header : Header) (result : Result Went End) → IsTurn door bytes taken (turns.Refused header)
      → Notes result (takes seen (notices.BadHeader header) sees) (refuses_notice seen (notices.BadHeader header) sees) true → Turns result was seen was sees old old stream
  turned_bad_header was seen sees old stream header result turn n =
      let b = bad_tail header turn in
      noted (λ r. Turns r was seen was sees old old stream) result _ _ true n (λ e took. absurd cc) (λ e took. closes_tail was seen sees old stream header b took)
      (λ refused. unwitnessed was seen sees old stream [] (notices.BadHeader header) [] b.left (notices_at_end door _ (cut door bytes).tail [] ∙ b.notice) refused)

  -- memory ran out for a packet
  pub turned_memory : (was : S) (seen : V) (old : Option (List ℕ)) (stream : Stream) (result : Result Went End) → IsErrAnd result (λ told. told ≡ Memory) → taken < length (cut door bytes).packets
      → Turns result was seen was seen old old stream
  turned_memory was seen old stream (Ok went) told some = absurd told
  turned_memory was seen old stream (Err end) told some =
      let d = done_memory step rests refuses takes refuses_notice door (packets_of door (take taken (cut door bytes).packets)) (drop taken (cut door bytes).packets) (cut door bytes).tail was was seen old (rests_so was) in
      rw told (record { unfinished = λ e. cc; memory = λ e. some_bytes door bytes taken some; closing = tt; ends = d.ends; told = d.told })

  -- memory ran out for what a packet is answered
  pub turned_roomless : (was : S) (seen : V) (old : Option (List ℕ)) (stream : Stream) (packet : Received) (it : Step) (result : Result Went End) → IsTurn door bytes taken (turns.Packet packet it)
      → IsErrAnd result (λ told. told ≡ Memory) → Turns result was seen was seen old old stream
  turned_roomless was seen old stream packet it result turn told =
      let f = next_is door bytes taken packet it turn in
      turned_memory was seen old stream result told (omega (arith, length-drop taken (cut door bytes).packets, ap length f.left))

  -- no whole packet is left
  pub turned_need : (was : S) (seen : V) (old : Option (List ℕ)) (stream : Stream) → IsTurn door bytes taken turns.Need → closed_of stream ≡ false → pending_of stream ≡ None → Stands door stream bytes taken
      → Turns (Ok Rests) was seen was seen old old stream
  turned_need was seen old stream (inl f) closed free stands = absurd (by_packet f.is)
    where
      by_packet : {packet : Received} {it : Step} → turns.Need ≡ turns.Packet packet it → ⊥
      by_packet e = cc
  turned_need was seen old stream (inr n) closed free stands = record {
    left = n.left;
    tail = open_by (cut door bytes).tail n.is;
    same = refl;
    nothing = Appends-nil old;
    ready = (closed, free);
    stands = stands;
  }
    where
      open_by : (tail : Tail) → turns.Need ≡ tail_turn tail → closed_by tail ≡ false
      open_by (open_end rest) e = refl
      open_by (fault refused) e = cc

-- a connection on which packets are taken isn't closed
pub not_shut : (door : Door) (bytes : List ℕ) (taken : ℕ) → IsTurn door bytes taken turns.Close → ⊥
not_shut door bytes taken (inl f) = by_packet f.is
  where
    by_packet : {packet : Received} {it : Step} → turns.Close ≡ turns.Packet packet it → ⊥
    by_packet e = cc
not_shut door bytes taken (inr n) = by_tail (cut door bytes).tail n.is
  where
    by_tail : (tail : Tail) → turns.Close ≡ tail_turn tail → ⊥
    by_tail (open_end rest) e = cc
    by_tail (fault refused) e = cc
