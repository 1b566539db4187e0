-- What is said on a connection: packet by packet, and piece by piece.
use Rattle.std.proofs.Common.{◌≡◌, ℕ, List, [], ◌∷◌, ◌++◌, length, drop, map, reverse, Bool, true, false, cond, refl, sym, ap, ◌∙◌, append_assoc, append-nil}
use Rattle.std.proofs.Math.Seq.{take-append_seam}
use Rattle.std.proofs.lemmas.List.{reverse-append, map-append}
use Rattle.tac_wire.specs.declared.door.Door.{Door}
use Rattle.tac_wire.specs.declared.frame.Frame.{Frame}
use Rattle.tac_wire.specs.Stream.{Parts, Tail, open_end, fault, cut, continued}
use Rattle.tac_conn.specs.declared.packet.Packet.{Packet}
use Rattle.tac_conn.specs.Packet.{clear}
use Rattle.tac_conn.specs.History.{outcome}
use Rattle.tac_stream.specs.Turns.{packets_of, closed_by}
use Rattle.tac_desk.specs.Meaning.{Meaning}
use Rattle.tac_desk.specs.Serving.{Said, says, sent_before, unless_closed, said_to, said_on}

drop_front : (front rest : List Frame) → drop (length front) (front ++ rest) ≡ rest
drop_front [] rest = refl
drop_front (frame ∷ front) rest = drop_front front rest

-- ---- one after another

-- what comes later counts only with the meaning that is left
pub unless_closed-same : (said : Said) (f g : Meaning → Said) → f said.meaning ≡ g said.meaning → unless_closed said f ≡ unless_closed said g
unless_closed-same said f g e = ap (λ (next : Said). cond said.closes said (sent_before said.sent next)) e

pub unless_closed-true : (said : Said) (f : Meaning → Said) → said.closes ≡ true → unless_closed said f ≡ said
unless_closed-true said f e = rw e refl

pub unless_closed-false : (said : Said) (f : Meaning → Said) → said.closes ≡ false → unless_closed said f ≡ sent_before said.sent (f said.meaning)
unless_closed-false said f e = rw e refl

pub after_after : (first second : List Packet) (said : Said) → sent_before first (sent_before second said) ≡ sent_before (first ++ second) said
after_after first second said = ap (λ (sent : List Packet). record said { sent = sent }) (sym (append_assoc first second said.sent))

joined_open : (b : Bool) (sent : List Packet) (next : Said) (last : Meaning → Said) → next.closes ≡ b → sent_before sent (unless_closed next last) ≡ unless_closed (sent_before sent next) last
joined_open true sent next last e = rw e refl
joined_open false sent next last e = rw e (after_after sent next.sent (last next.meaning))

joined : (b : Bool) (said : Said) (next last : Meaning → Said) → said.closes ≡ b → unless_closed said (λ meaning. unless_closed (next meaning) last) ≡ unless_closed (unless_closed said next) last
joined true said next last e =
    unless_closed-true said (λ meaning. unless_closed (next meaning) last) e ∙ sym (unless_closed-true said last e) ∙ ap (λ (s : Said). unless_closed s last) (sym (unless_closed-true said next e))
joined false said next last e =
    unless_closed-false said (λ meaning. unless_closed (next meaning) last) e ∙ joined_open (next said.meaning).closes said.sent (next said.meaning) last refl ∙ ap (λ (s : Said). unless_closed s last) (sym (unless_closed-false said next e))

pub unless_closed-joined : (said : Said) (next last : Meaning → Said) → unless_closed said (λ meaning. unless_closed (next meaning) last) ≡ unless_closed (unless_closed said next) last
unless_closed-joined said next last = joined said.closes said next last refl

-- ---- packets

module _ (door : Door) where
  pub packets_of-append : (first second : List Frame) → packets_of door (first ++ second) ≡ packets_of door second ++ packets_of door first
  packets_of-append first second = ap reverse (map-append (clear door) first second) ∙ reverse-append (map (clear door) first) (map (clear door) second)

  pub packets_of-next : (frames : List Frame) (frame : Frame) → packets_of door (frames ++ frame ∷ []) ≡ clear door frame ∷ packets_of door frames
  packets_of-next frames frame = packets_of-append frames (frame ∷ [])

  -- the packets of the first, and then the others
  history : (frame : Frame) (frames : List Frame) (earlier : List Packet) → packets_of door frames ++ (clear door frame ∷ earlier) ≡ packets_of door (frame ∷ frames) ++ earlier
  history frame frames earlier =
      sym (append_assoc (packets_of door frames) (clear door frame ∷ []) earlier) ∙ ap (λ (ps : List Packet). ps ++ earlier) (sym (packets_of-append (frame ∷ []) frames))

  pub said_to-none : (meaning : Meaning) (earlier : List Packet) (tail : Tail) → said_to door meaning earlier [] tail ≡ record { sent = []; closes = closed_by tail; meaning = meaning }
  unfolding said_to
  said_to-none meaning earlier tail = refl

  pub said_to-next : (meaning : Meaning) (earlier : List Packet) (frame : Frame) (frames : List Frame) (tail : Tail) → said_to door meaning earlier (frame ∷ frames) tail
      ≡ unless_closed (says meaning (outcome earlier (clear door frame))) (λ next. said_to door next (clear door frame ∷ earlier) frames tail)
  unfolding said_to
  said_to-next meaning earlier frame frames tail = refl

  -- the later packets follow the first ones
  pub said_to-append : (first second : List Frame) (tail : Tail) (rest : List ℕ) (meaning : Meaning) (earlier : List Packet) → said_to door meaning earlier (first ++ second) tail
      ≡ unless_closed (said_to door meaning earlier first (open_end rest)) (λ next. said_to door next (packets_of door first ++ earlier) second tail)
  said_to-append [] second tail rest meaning earlier =
      ap (λ (s : Said). unless_closed s (λ next. said_to door next earlier second tail)) (sym (said_to-none meaning earlier (open_end rest)))
  said_to-append (frame ∷ first) second tail rest meaning earlier =
      let said = says meaning (outcome earlier (clear door frame)) in
      let last : Meaning → Said = λ next. said_to door next (packets_of door (frame ∷ first) ++ earlier) second tail in
      let step : Meaning → Said = λ next. said_to door next (clear door frame ∷ earlier) first (open_end rest) in
      let told : said_to door said.meaning (clear door frame ∷ earlier) (first ++ second) tail ≡ unless_closed (step said.meaning) last =
      said_to-append first second tail rest said.meaning (clear door frame ∷ earlier)
      ∙ ap (λ (ps : List Packet). unless_closed (step said.meaning) (λ next. said_to door next ps second tail)) (history frame first earlier) in
      said_to-next meaning earlier frame (first ++ second) tail
      ∙ unless_closed-same said (λ next. said_to door next (clear door frame ∷ earlier) (first ++ second) tail) (λ next. unless_closed (step next) last) told
      ∙ unless_closed-joined said step last
      ∙ ap (λ (s : Said). unless_closed s last) (sym (said_to-next meaning earlier frame first (open_end rest)))

  closing_next : (b : Bool) (said : Said) (next : Meaning → Said) → said.closes ≡ b → (next said.meaning).closes ≡ true → (unless_closed said next).closes ≡ true
  closing_next true said next e h = ap (λ (s : Said). s.closes) (unless_closed-true said next e) ∙ e
  closing_next false said next e h = ap (λ (s : Said). s.closes) (unless_closed-false said next e) ∙ h

  -- after a header that is refused nothing is said
  said_to-fault : (frames : List Frame) (meaning : Meaning) (earlier : List Packet) (tail : Tail) → closed_by tail ≡ true → (said_to door meaning earlier frames tail).closes ≡ true
  said_to-fault [] meaning earlier tail e = ap (λ (s : Said). s.closes) (said_to-none meaning earlier tail) ∙ e
  said_to-fault (frame ∷ frames) meaning earlier tail e =
      let said = says meaning (outcome earlier (clear door frame)) in
      ap (λ (s : Said). s.closes) (said_to-next meaning earlier frame frames tail)
      ∙ closing_next said.closes said (λ next. said_to door next (clear door frame ∷ earlier) frames tail) refl (said_to-fault frames said.meaning (clear door frame ∷ earlier) tail e)

  -- ---- pieces

  -- what is said, by the parts of the stream before and after
  pub said_on-parts : (meaning : Meaning) (before more : List ℕ) (old new : List Frame) (tail : Tail) → (cut door before).packets ≡ old → cut door (before ++ more) ≡ record { packets = old ++ new; tail = tail }
      → said_on door meaning before more ≡ said_to door meaning (packets_of door old) new tail
  said_on-parts meaning before more old new tail e parts = rw (e, parts, drop_front old new, take-append_seam old new) refl

  abbrev parts_is : List Frame → Tail → Parts
  parts_is packets tail = record { packets = packets; tail = tail }

  -- the first piece has ended the stream
  after_fault : (meaning : Meaning) (before more rest : List ℕ) (old new : List Frame) (tail : Tail) → closed_by tail ≡ true → (cut door before).packets ≡ old
      → cut door (before ++ more) ≡ parts_is (old ++ new) tail → cut door (before ++ (more ++ rest)) ≡ parts_is (old ++ new) tail
      → said_on door meaning before (more ++ rest) ≡ unless_closed (said_on door meaning before more) (λ next. said_on door next (before ++ more) rest)
  after_fault meaning before more rest old new tail closed e first whole =
      let one = said_on-parts meaning before more old new tail e first in
      said_on-parts meaning before (more ++ rest) old new tail e whole ∙ sym one
      ∙ sym (unless_closed-true (said_on door meaning before more) (λ next. said_on door next (before ++ more) rest) (ap (λ (s : Said). s.closes) one ∙ said_to-fault new meaning (packets_of door old) tail closed))

  -- the stream goes on
  after_open : (meaning : Meaning) (before more rest left : List ℕ) (old new later : List Frame) (tail : Tail) → (cut door before).packets ≡ old
      → cut door (before ++ more) ≡ parts_is (old ++ new) (open_end left) → cut door (before ++ (more ++ rest)) ≡ parts_is ((old ++ new) ++ later) tail
      → said_on door meaning before (more ++ rest) ≡ unless_closed (said_on door meaning before more) (λ next. said_on door next (before ++ more) rest)
  after_open meaning before more rest left old new later tail e first whole =
      let one = said_on-parts meaning before more old new (open_end left) e first in
      let all = said_on-parts meaning before (more ++ rest) old (new ++ later) tail e (whole ∙ ap (λ (fs : List Frame). parts_is fs tail) (append_assoc old new later)) in
      let grouped : cut door ((before ++ more) ++ rest) ≡ parts_is ((old ++ new) ++ later) tail = ap (cut door) (append_assoc before more rest) ∙ whole in
      let packets : (cut door (before ++ more)).packets ≡ old ++ new = ap (λ (p : Parts). p.packets) first in
      let two : (next : Meaning) → said_to door next (packets_of door new ++ packets_of door old) later tail ≡ said_on door next (before ++ more) rest =
      λ next. ap (λ (ps : List Packet). said_to door next ps later tail) (sym (packets_of-append old new)) ∙ sym (said_on-parts next (before ++ more) rest (old ++ new) later tail packets grouped) in
      let said = said_to door meaning (packets_of door old) new (open_end left) in
      all ∙ said_to-append new later tail left meaning (packets_of door old)
      ∙ unless_closed-same said (λ next. said_to door next (packets_of door new ++ packets_of door old) later tail) (λ next. said_on door next (before ++ more) rest) (two said.meaning)
      ∙ ap (λ (s : Said). unless_closed s (λ next. said_on door next (before ++ more) rest)) (sym one)

  module _ (law : (bytes more : List ℕ) → cut door (bytes ++ more) ≡ continued door (cut door bytes) more) where
    by_second : (meaning : Meaning) (before more rest : List ℕ) (old new : List Frame) (tail : Tail) → (cut door before).packets ≡ old
        → cut door (before ++ more) ≡ parts_is (old ++ new) tail
        → said_on door meaning before (more ++ rest) ≡ unless_closed (said_on door meaning before more) (λ next. said_on door next (before ++ more) rest)
    by_second meaning before more rest old new (fault reason) e first =
        after_fault meaning before more rest old new (fault reason) refl e first
        (ap (cut door) (sym (append_assoc before more rest)) ∙ law (before ++ more) rest ∙ ap (λ (p : Parts). continued door p rest) first)
    by_second meaning before more rest old new (open_end left) e first =
        after_open meaning before more rest left old new (cut door (left ++ rest)).packets (cut door (left ++ rest)).tail e first
        (ap (cut door) (sym (append_assoc before more rest)) ∙ law (before ++ more) rest ∙ ap (λ (p : Parts). continued door p rest) first)

    by_first : (meaning : Meaning) (before more rest : List ℕ) (old : List Frame) (tail : Tail) → cut door before ≡ parts_is old tail
        → said_on door meaning before (more ++ rest) ≡ unless_closed (said_on door meaning before more) (λ next. said_on door next (before ++ more) rest)
    by_first meaning before more rest old (fault reason) e =
        by_second meaning before more rest old [] (fault reason) (ap (λ (p : Parts). p.packets) e)
        (law before more ∙ ap (λ (p : Parts). continued door p more) e ∙ ap (λ (fs : List Frame). parts_is fs (fault reason)) (sym (append-nil old)))
    by_first meaning before more rest old (open_end left) e =
        by_second meaning before more rest old (cut door (left ++ more)).packets (cut door (left ++ more)).tail (ap (λ (p : Parts). p.packets) e)
        (law before more ∙ ap (λ (p : Parts). continued door p more) e)

    -- however bytes are cut into pieces, the same is said
    pub said_on-pieces : (meaning : Meaning) (before more rest : List ℕ) → said_on door meaning before (more ++ rest)
        ≡ unless_closed (said_on door meaning before more) (λ next. said_on door next (before ++ more) rest)
    said_on-pieces meaning before more rest = by_first meaning before more rest (cut door before).packets (cut door before).tail refl
