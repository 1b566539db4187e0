-- The packets of a stream, one taken after another.
use Rattle.std.proofs.Common.{◌≡◌, ℕ, zero, suc, ◌+◌, ◌≤◌, ◌<◌, List, [], ◌∷◌, ◌++◌, length, take, drop, map, reverse, Ok, Err, IfOk, OnErr, Result, refl, sym, ap, subst, ◌∙◌, length-append, inl, inr, arith}
use Rattle.std.proofs.lemmas.List.{map-append, reverse-append, take-append-le, drop-append-le}
use Rattle.std.specs.declared.alloc.AllocError.{AllocError}
use Rattle.tac_wire.specs.declared.door.Door.{Door}
use Rattle.tac_wire.specs.declared.frame.Frame.{Frame}
use Rattle.tac_wire.specs.declared.frame.RefusedHeader.{RefusedHeader}
use Rattle.tac_wire.specs.declared.framer.Next.{Next}
use Rattle.tac_wire.specs.declared.framer.Next.TheVariants as nexts
use Rattle.tac_wire.specs.Stream.{Parts, Tail, open_end, fault, Pending, unread, ended, Item, whole, refused, unfinished, cut, cut_within, only, first_item, parts_by, told, next_of, left_of, left_by, fed, continued, IsPacket, WasInFront, frame_bytes}
use Rattle.tac_conn.specs.declared.packet.Packet.{Packet}
use Rattle.tac_conn.specs.declared.step.Step.{Step}
use Rattle.tac_conn.specs.Packet.{clear}
use Rattle.tac_conn.specs.History.{outcome}
use Rattle.tac_conn.specs.Standing as conns
use Rattle.tac_conn.specs.declared.reading.Received.{Received}
use Rattle.tac_conn.specs.Received.{received, without_ask}
use Rattle.tac_stream.specs.declared.stream.Stream.{Stream}
use Rattle.tac_stream.specs.declared.turn.Turn.{Turn}
use Rattle.tac_stream.specs.declared.turn.Turn.TheVariants.{Packet as Taken, Need, Refused, Close}
use Rattle.tac_stream.specs.Turns.{packets_of, turn_by, next_turn, IsTurn}
use Rattle.tac_stream.specs.Kept.{Stands, StandsAfter, unread_len}

-- ---- lists

next_of_list : (n : ℕ) (xs : List Frame) (x : Frame) (more : List Frame) → drop n xs ≡ x ∷ more
    → (take (suc n) xs ≡ take n xs ++ x ∷ []) × (drop (suc n) xs ≡ more) × (n < length xs)
next_of_list zero [] x more e = absurd cc
next_of_list zero (y ∷ ys) x more e =
    let here : y ≡ x = cc in
    let rest : ys ≡ more = cc in
    (ap (λ (f : Frame). f ∷ []) here, rest, omega arith)
next_of_list (suc n) [] x more e = absurd cc
next_of_list (suc n) (y ∷ ys) x more e =
    let found = next_of_list n ys x more e in (ap (λ (fs : List Frame). y ∷ fs) found.0, found.1, omega (arith, found.2))

packets_of-append : (door : Door) (first second : List Frame) → packets_of door (first ++ second) ≡ packets_of door second ++ packets_of door first
packets_of-append door first second = ap reverse (map-append (clear door) first second) ∙ reverse-append (map (clear door) first) (map (clear door) second)

-- ---- which turn it is

module _ (door : Door) (bytes : List ℕ) (taken : ℕ) where
  by_list : (turn : Turn) (frames : List Frame) → drop taken (cut door bytes).packets ≡ frames
      → turn ≡ turn_by door (packets_of door (take taken (cut door bytes).packets)) frames (cut door bytes).tail → IsTurn door bytes taken turn
  by_list turn [] left is = inr (record { left = left; is = is })
  by_list turn (frame ∷ more) left is = inl (record { frame = frame; more = more; left = left; is = is })

  by_turn : (turn : Turn) → turn ≡ next_turn door bytes taken → IsTurn door bytes taken turn
  unfolding next_turn
  by_turn turn is = by_list turn (drop taken (cut door bytes).packets) refl is

  pub found_turn : (result : Result Turn AllocError) → IfOk result (λ turn. turn ≡ next_turn door bytes taken) → IfOk result (IsTurn door bytes taken)
  found_turn (Ok turn) is = by_turn turn is
  found_turn (Err error) is = is

-- ---- the beginning

cut_none : (door : Door) → cut door [] ≡ only (open_end [])
unfolding cut cut_within
cut_none door = refl

pub stands_new : (door : Door) (stream : Stream) → stream.framer ≡ unread [] → conns.Stands stream.conn [] → Stands door stream [] 0
stands_new door stream framer conn = record {
  held = [];
  framer = framer;
  left = rw (cut_none door) refl;
  within = omega arith;
  conn = conn;
}

-- ---- more bytes

module _ (door : Door) (law : (bytes more : List ℕ) → cut door (bytes ++ more) ≡ continued door (cut door bytes) more) (old new : Stream) (bytes piece : List ℕ) (taken : ℕ)
    (now : new.framer ≡ fed old.framer piece) (same : new.conn ≡ old.conn) (s : Stands door old bytes taken) where
  goes_on : (packets : List Frame) (tail : Tail) → cut door bytes ≡ record { packets = packets; tail = tail } → Stands door new (bytes ++ piece) taken
  goes_on packets (fault reason) e =
      let whole_cut : cut door (bytes ++ piece) ≡ record { packets = packets; tail = fault reason } = law bytes piece ∙ ap (λ (p : Parts). continued door p piece) e in
      let left : cut door s.held ≡ record { packets = drop taken packets; tail = fault reason } = s.left ∙ ap (λ (p : Parts). record { packets = drop taken p.packets; tail = p.tail }) e in
      record {
        held = s.held ++ piece;
        framer = now ∙ ap (λ (p : Pending). fed p piece) s.framer;
        left = rw whole_cut (law s.held piece ∙ ap (λ (p : Parts). continued door p piece) left);
        within = rw whole_cut (rw e at s.within);
        conn = rw (same, whole_cut) (rw e at s.conn);
      }
  goes_on packets (open_end rest) e =
      let more = cut door (rest ++ piece) in
      let whole_cut : cut door (bytes ++ piece) ≡ record { packets = packets ++ more.packets; tail = more.tail } = law bytes piece ∙ ap (λ (p : Parts). continued door p piece) e in
      let left : cut door s.held ≡ record { packets = drop taken packets; tail = open_end rest } = s.left ∙ ap (λ (p : Parts). record { packets = drop taken p.packets; tail = p.tail }) e in
      let within : taken ≤ length packets = rw e at s.within in
      record {
        held = s.held ++ piece;
        framer = now ∙ ap (λ (p : Pending). fed p piece) s.framer;
        left = rw (whole_cut, drop-append-le taken packets more.packets within) (law s.held piece ∙ ap (λ (p : Parts). continued door p piece) left);
        within = rw whole_cut (omega (arith, length-append packets more.packets));
        conn = rw (same, whole_cut, take-append-le taken packets more.packets within) (rw e at s.conn);
      }

  pub stands_fed : Stands door new (bytes ++ piece) taken
  stands_fed = goes_on (cut door bytes).packets (cut door bytes).tail refl

-- ---- the same packets

-- it represents the same, closed or not
stands_same : (door : Door) (old new : Stream) (bytes : List ℕ) (taken : ℕ) → new.framer ≡ old.framer → new.conn ≡ old.conn → Stands door old bytes taken → Stands door new bytes taken
stands_same door old new bytes taken framer conn s = record { held = s.held; framer = framer ∙ s.framer; left = s.left; within = s.within; conn = rw conn s.conn }

after_same : (turn : Turn) (door : Door) (old new : Stream) (bytes : List ℕ) (taken : ℕ) → new.framer ≡ old.framer → new.conn ≡ old.conn → StandsAfter turn door old bytes taken → StandsAfter turn door new bytes taken
after_same (Taken packet step) door old new bytes taken framer conn s = stands_same door old new bytes (suc taken) framer conn s
after_same Need door old new bytes taken framer conn s = stands_same door old new bytes taken framer conn s
after_same (Refused header) door old new bytes taken framer conn s = tt
after_same Close door old new bytes taken framer conn s = tt

pub result_after : (result : Result Turn AllocError) (door : Door) (old new : Stream) (bytes : List ℕ) (taken : ℕ) → new.framer ≡ old.framer → new.conn ≡ old.conn
    → IfOk result (λ turn. StandsAfter turn door old bytes taken) → IfOk result (λ turn. StandsAfter turn door new bytes taken)
result_after (Ok turn) door old new bytes taken framer conn s = after_same turn door old new bytes taken framer conn s
result_after (Err error) door old new bytes taken framer conn s = s

-- ---- what is held

held_falls : (door : Door) (pending left : Pending) (frame : Frame) → nexts.Packet frame ≡ next_of door pending → WasInFront (nexts.Packet frame) pending left → unread_len left < unread_len pending
held_falls door (unread bytes) (unread rest) frame e was =
    let same : unread bytes ≡ unread (frame_bytes frame ++ rest) = was.0 in
    let text : bytes ≡ frame_bytes frame ++ rest = cc in
    let long : length bytes ≡ length (frame_bytes frame) + length rest = ap length text ∙ length-append (frame_bytes frame) rest in
    omega (arith, long)
held_falls door (unread bytes) ended frame e was = let same : unread bytes ≡ ended = was.0 in cc
held_falls door ended left frame e was = cc

pub packet_falls : (door : Door) (pending left : Pending) (frame : Frame) (next : Next) → next ≡ nexts.Packet frame → next ≡ next_of door pending → WasInFront next pending left → unread_len left < unread_len pending
packet_falls door pending left frame next e f was = held_falls door pending left frame (sym e ∙ f) (subst (λ (n : Next). WasInFront n pending left) e was)

-- what holds anyway holds at an error
pub on_err : {T E : Type 0} (result : Result T E) (P : Type 0) → P → OnErr result P
on_err (Ok value) P p = tt
on_err (Err error) P p = p

-- ---- what stands first

module _ (door : Door) (items : (bytes : List ℕ) → cut door bytes ≡ parts_by (cut door) (first_item door bytes) bytes) (old : Stream) (bytes : List ℕ) (taken : ℕ) (s : Stands door old bytes taken) where
  parts : Item → Parts
  parts item = parts_by (cut door) item s.held

  -- the packets that are left, by the item that stands first
  left_is : (item : Item) → first_item door s.held ≡ item
      → (drop taken (cut door bytes).packets ≡ (parts_by (cut door) item s.held).packets) × ((cut door bytes).tail ≡ (parts_by (cut door) item s.held).tail)
  left_is item e =
      let same : record { packets = drop taken (cut door bytes).packets; tail = (cut door bytes).tail } ≡ parts_by (cut door) item s.held =
      sym s.left ∙ items s.held ∙ ap (λ (i : Item). parts_by (cut door) i s.held) e in
      (ap (λ (p : Parts). p.packets) same, ap (λ (p : Parts). p.tail) same)

  told_is : (next : Next) → next ≡ next_of door old.framer → next ≡ told (first_item door s.held)
  told_is next e = e ∙ ap (next_of door) s.framer

  packet_told : (item : Item) (frame : Frame) → nexts.Packet frame ≡ told item → (rest : List ℕ) × (item ≡ whole frame rest)
  packet_told (whole other rest) frame e = (rest, let same : nexts.Packet frame ≡ nexts.Packet other = e in cc)
  packet_told (refused reason) frame e = absurd (no e)
    where
      no : nexts.Packet frame ≡ nexts.Fault reason → ⊥
      no e = cc
  packet_told unfinished frame e = absurd (no e)
    where
      no : nexts.Packet frame ≡ nexts.Need → ⊥
      no e = cc

  need_told : (item : Item) → nexts.Need ≡ told item → item ≡ unfinished
  need_told (whole frame rest) e = cc
  need_told (refused reason) e = cc
  need_told unfinished e = refl

  fault_told : (item : Item) (reason : RefusedHeader) → nexts.Fault reason ≡ told item → item ≡ refused reason
  fault_told (whole frame rest) reason e = cc
  fault_told (refused other) reason e = cc
  fault_told unfinished reason e = cc

  not_ended : (item : Item) → nexts.Ended ≡ told item → ⊥
  not_ended (whole frame rest) e = cc
  not_ended (refused reason) e = cc
  not_ended unfinished e = cc

  module _ (frame : Frame) (e : nexts.Packet frame ≡ next_of door old.framer) where
    earlier : List Packet
    earlier = packets_of door (take taken (cut door bytes).packets)

    found : (rest : List ℕ) × (first_item door s.held ≡ whole frame rest)
    found = packet_told (first_item door s.held) frame (told_is (nexts.Packet frame) e)

    first_left : drop taken (cut door bytes).packets ≡ frame ∷ (cut door found.0).packets
    unfolding found
    first_left = (left_is (whole frame found.0) found.1).0

    pub packet_within : taken < length (cut door bytes).packets
    packet_within = (next_of_list taken (cut door bytes).packets frame (cut door found.0).packets first_left).2

    -- a packet is taken
    pub packet_next : (it : Received) (step : Step) → it ≡ without_ask step (received (packets_of door (take taken (cut door bytes).packets)) (clear door frame))
        → step ≡ conns.step_of (outcome (packets_of door (take taken (cut door bytes).packets)) (clear door frame))
        → Taken it step ≡ next_turn door bytes taken
    unfolding next_turn
    packet_next it step same is = rw (first_left, same, is) refl

    pub packet_stands : (new : Stream) → new.framer ≡ left_of door old.framer → conns.Stands new.conn (clear door frame ∷ packets_of door (take taken (cut door bytes).packets))
        → Stands door new bytes (suc taken)
    unfolding found
    packet_stands new framer conn =
        let next = next_of_list taken (cut door bytes).packets frame (cut door found.0).packets first_left in
        let history : packets_of door (take (suc taken) (cut door bytes).packets) ≡ clear door frame ∷ packets_of door (take taken (cut door bytes).packets) =
        ap (packets_of door) next.0 ∙ packets_of-append door (take taken (cut door bytes).packets) (frame ∷ []) in
        record {
          held = found.0;
          framer = framer ∙ ap (left_of door) s.framer ∙ ap (λ (i : Item). left_by i s.held) found.1;
          left = sym (rw (next.1, (left_is (whole frame found.0) found.1).1) refl);
          within = omega (arith, next.2);
          conn = rw history conn;
        }

  -- no packet is left
  pub need_turn : nexts.Need ≡ next_of door old.framer → Need ≡ next_turn door bytes taken
  unfolding next_turn
  need_turn e =
      let left = left_is unfinished (need_told (first_item door s.held) (told_is nexts.Need e)) in rw (left.0, left.1) refl

  pub need_stands : (new : Stream) → nexts.Need ≡ next_of door old.framer → new.framer ≡ left_of door old.framer → new.conn ≡ old.conn → Stands door new bytes taken
  need_stands new e framer same = record {
    held = s.held;
    framer = framer ∙ ap (left_of door) s.framer ∙ ap (λ (i : Item). left_by i s.held) (need_told (first_item door s.held) (told_is nexts.Need e));
    left = s.left;
    within = s.within;
    conn = rw same s.conn;
  }

  pub refused_turn : (reason : RefusedHeader) → nexts.Fault reason ≡ next_of door old.framer → Refused reason.header ≡ next_turn door bytes taken
  unfolding next_turn
  refused_turn reason e =
      let left = left_is (refused reason) (fault_told (first_item door s.held) reason (told_is (nexts.Fault reason) e)) in rw (left.0, left.1) refl

  pub ended_turn : nexts.Ended ≡ next_of door old.framer → Close ≡ next_turn door bytes taken
  ended_turn e = absurd (not_ended (first_item door s.held) (told_is nexts.Ended e))

  -- a packet stands first, so one is left
  pub packet_left : (next : Next) → next ≡ next_of door old.framer → IsPacket next → taken < length (cut door bytes).packets
  packet_left (nexts.Packet frame) e packet = packet_within frame e
  packet_left nexts.Need e packet = absurd packet
  packet_left (nexts.Fault reason) e packet = absurd packet
  packet_left nexts.Ended e packet = absurd packet
