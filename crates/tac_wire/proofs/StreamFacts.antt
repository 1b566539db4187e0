-- A stream, item by item, and that its parts don't depend on the pieces in which it comes.
use Rattle.std.proofs.Common.{◌≡◌, ℕ, zero, suc, ◌+◌, ◌^◌, ◌<◌, ◌≤◌, List, [], ◌∷◌, ◌++◌, append_assoc, length, take, drop, refl, sym, ap, ◌∙◌, arith, inl, inr, Option, Some, None}
use Rattle.std.proofs.lemmas.Bool.{cases_lt, le-leb, lt-leb}
use Rattle.std.proofs.lemmas.List.{length-take, length-drop, length-append, drop-drop, take-append-le, drop-append-le, take-append-drop, take_at, drop_at}
use Rattle.std.proofs.lemmas.Bool.Decides.{nat_tests}
use Rattle.tac_wire.proofs.HeaderFacts.{header_of-header_bytes}
use Rattle.tac_wire.specs.declared.door.Door.{Door}
use Rattle.tac_wire.specs.declared.header.Header.{Header}
use Rattle.tac_wire.specs.declared.frame.Frame.{Frame}
use Rattle.tac_wire.specs.declared.frame.FrameFault.{FrameFault}
use Rattle.tac_wire.specs.declared.frame.RefusedHeader.{RefusedHeader}
use Rattle.tac_wire.specs.Header.{header_bytes, header_of}
use Rattle.tac_wire.specs.declared.framer.Next.{Next}
use Rattle.tac_wire.specs.declared.framer.Next.TheVariants.{Packet, Fault}
use Rattle.tac_wire.specs.Stream.{unread, ended, left_by, told, Tail, open_end, fault, Parts, only, before_parts, parts_by, cut_within, cut, resumed, continued, Item, whole, refused, unfinished, header_fault, packet_item, header_item, first_item, frame_bytes, IsTaken}

-- ---- one packet

packet_item-enough : (header : Header) (rest : List ℕ) → header.length ≤ length rest → packet_item header rest ≡ whole (record { header = header; body = take header.length rest }) (drop header.length rest)
packet_item-enough header rest h = rw (le-leb header.length (length rest) h) refl

packet_item-short : (header : Header) (rest : List ℕ) → length rest < header.length → packet_item header rest ≡ unfinished
packet_item-short header rest h = rw (lt-leb header.length (length rest) h) refl

-- what a whole item says of the bytes
pub record IsWhole (bytes : List ℕ) (frame : Frame) (rest : List ℕ) : Type 0 where
  pub long : 12 + length frame.body ≤ length bytes
  pub after : rest ≡ drop (12 + length frame.body) bytes

packet_item-whole : (header : Header) (tail : List ℕ) (frame : Frame) (rest : List ℕ) → packet_item header tail ≡ whole frame rest → (length frame.body ≤ length tail) × (rest ≡ drop (length frame.body) tail)
packet_item-whole header tail frame rest e =
    elim (cases_lt (length tail) header.length) [
      | inl lt ↦ let no : unfinished ≡ whole frame rest = sym (packet_item-short header tail lt) ∙ e in (cc)
      | inr le ↦
          let len : length (take header.length tail) ≡ header.length = omega (arith, length-take header.length tail) in
          let made : Frame = record { header = header; body = take header.length tail } in
          let same : whole made (drop header.length tail) ≡ whole frame rest = sym (packet_item-enough header tail le) ∙ e in
          let frames : made ≡ frame = cc in
          let body : take header.length tail ≡ frame.body = ap (λ (f : Frame). f.body) frames in
          let size : length frame.body ≡ header.length = ap length (sym body) ∙ len in
          let after : rest ≡ drop header.length tail = cc in
          (omega arith, rw size after)
    ]

-- a refused header is no packet
header_item-whole : (reason : Option FrameFault) (header : Header) (tail : List ℕ) (frame : Frame) (rest : List ℕ) → header_item reason header tail ≡ whole frame rest → (length frame.body ≤ length tail) × (rest ≡ drop (length frame.body) tail)
header_item-whole (Some reason) header tail frame rest e = cc
header_item-whole None header tail frame rest e = packet_item-whole header tail frame rest e

packet_item-append : (header : Header) (tail more : List ℕ) (frame : Frame) (rest : List ℕ) → packet_item header tail ≡ whole frame rest → packet_item header (tail ++ more) ≡ whole frame (rest ++ more)
packet_item-append header tail more frame rest e =
    elim (cases_lt (length tail) header.length) [
      | inl lt ↦ let no : unfinished ≡ whole frame rest = sym (packet_item-short header tail lt) ∙ e in (cc)
      | inr le ↦
          let made : Frame = record { header = header; body = take header.length tail } in
          let same : whole made (drop header.length tail) ≡ whole frame rest = sym (packet_item-enough header tail le) ∙ e in
          let frames : made ≡ frame = cc in
          let after : drop header.length tail ≡ rest = cc in
          packet_item-enough header (tail ++ more) (omega (arith, length-append tail more))
          ∙ rw (take-append-le, drop-append-le) (ap (λ (f : Frame). whole f (drop header.length tail ++ more)) frames ∙ ap (λ (r : List ℕ). whole frame (r ++ more)) after)
    ]

header_item-append_whole : (reason : Option FrameFault) (header : Header) (tail more : List ℕ) (frame : Frame) (rest : List ℕ) → header_item reason header tail ≡ whole frame rest → header_item reason header (tail ++ more) ≡ whole frame (rest ++ more)
header_item-append_whole (Some reason) header tail more frame rest e = cc
header_item-append_whole None header tail more frame rest e = packet_item-append header tail more frame rest e

packet_item-refused : (header : Header) (tail : List ℕ) (reason : RefusedHeader) → packet_item header tail ≡ refused reason → ⊥
packet_item-refused header tail reason e =
    elim (cases_lt (length tail) header.length) [
      | inl lt ↦ let no : unfinished ≡ refused reason = sym (packet_item-short header tail lt) ∙ e in (cc)
      | inr le ↦ let no : whole (record { header = header; body = take header.length tail }) (drop header.length tail) ≡ refused reason = sym (packet_item-enough header tail le) ∙ e in (cc)
    ]

header_item-append_refused : (found : Option FrameFault) (header : Header) (tail more : List ℕ) (reason : RefusedHeader) → header_item found header tail ≡ refused reason → header_item found header (tail ++ more) ≡ refused reason
header_item-append_refused (Some other) header tail more reason e = e
header_item-append_refused None header tail more reason e = absurd (packet_item-refused header tail reason e)

-- the item that a packet was told of
told-packet : (item : Item) (frame : Frame) → told item ≡ Packet frame → (rest : List ℕ) × (item ≡ whole frame rest)
told-packet (whole other rest) frame e = (rest, ap (λ (f : Frame). whole f rest) (let same : other ≡ frame = cc in same))
told-packet (refused reason) frame e = cc
told-packet unfinished frame e = cc

pub left-fault : (item : Item) (bytes : List ℕ) (reason : RefusedHeader) → Fault reason ≡ told item → ended ≡ left_by item bytes
left-fault (whole frame rest) bytes reason e = cc
left-fault (refused other) bytes reason e = refl
left-fault unfinished bytes reason e = cc

-- where neither a packet nor a fault was told, all is left
pub left-other : (next : Next) (item : Item) (bytes : List ℕ) → next ≡ told item → ((frame : Frame) → next ≡ Packet frame → ⊥) → ((reason : RefusedHeader) → next ≡ Fault reason → ⊥) → unread bytes ≡ left_by item bytes
left-other next (whole frame rest) bytes e no_packet no_fault = absurd (no_packet frame e)
left-other next (refused reason) bytes e no_packet no_fault = absurd (no_fault reason e)
left-other next unfinished bytes e no_packet no_fault = refl

-- a packet is written at the head of the bytes that it was made of
pub packet-found : (bytes head tail : List ℕ) (header : Header) (body : List ℕ) → head ≡ take 12 bytes → tail ≡ drop 12 bytes → header_bytes header ≡ head → body ≡ take header.length tail → header.length ≤ length tail
    → (bytes ≡ header_bytes header ++ body ++ drop (12 + length body) bytes) × (length body ≡ header.length)
packet-found bytes head tail header body front back spelled cut long =
    let size : length body ≡ header.length = ap length cut ∙ omega (arith, length-take header.length tail) in
    let rest : drop (12 + length body) bytes ≡ drop header.length tail = rw size (sym (drop-drop header.length 12 bytes)) ∙ ap (drop header.length) (sym back) in
    let parts : body ++ drop (12 + length body) bytes ≡ tail = rw (rest, cut) (take-append-drop header.length tail) in
    let heads : header_bytes header ≡ take 12 bytes = spelled ∙ front in
    (sym (sym (append_assoc (header_bytes header) body (drop (12 + length body) bytes)) ∙ ap (λ (t : List ℕ). header_bytes header ++ t) (parts ∙ back) ∙ ap (λ (t : List ℕ). t ++ drop 12 bytes) heads ∙ take-append-drop 12 bytes), size)

module _ (door : Door) where
  -- ---- one item

  first_item-enough : (bytes : List ℕ) → 12 ≤ length bytes → first_item door bytes ≡ header_item (header_fault door (header_of (take 12 bytes))) (header_of (take 12 bytes)) (drop 12 bytes)
  unfolding first_item
  first_item-enough bytes h = rw (le-leb 12 (length bytes) h) refl

  first_item-short : (bytes : List ℕ) → length bytes < 12 → first_item door bytes ≡ unfinished
  unfolding first_item
  first_item-short bytes h = rw (lt-leb 12 (length bytes) h) refl

  pub first_item-whole : (bytes : List ℕ) (frame : Frame) (rest : List ℕ) → first_item door bytes ≡ whole frame rest → IsWhole bytes frame rest
  first_item-whole bytes frame rest e =
      elim (cases_lt (length bytes) 12) [
        | inl lt ↦ let no : unfinished ≡ whole frame rest = sym (first_item-short bytes lt) ∙ e in (cc)
        | inr le ↦
            let parts = header_item-whole (header_fault door (header_of (take 12 bytes))) (header_of (take 12 bytes)) (drop 12 bytes) frame rest (sym (first_item-enough bytes le) ∙ e) in
            let at : drop (length frame.body) (drop 12 bytes) ≡ drop (12 + length frame.body) bytes = drop-drop (length frame.body) 12 bytes in
            record { long = omega (arith, length-drop 12 bytes, parts.0); after = parts.1 ∙ at }
      ]

  -- ---- more bytes after an item

  first_item-append : (bytes more : List ℕ) → 12 ≤ length bytes → first_item door (bytes ++ more) ≡ header_item (header_fault door (header_of (take 12 bytes))) (header_of (take 12 bytes)) (drop 12 bytes ++ more)
  first_item-append bytes more h =
      let fixed : take 12 (bytes ++ more) ≡ take 12 bytes = take-append-le 12 bytes more h in
      let after : drop 12 (bytes ++ more) ≡ drop 12 bytes ++ more = drop-append-le 12 bytes more h in
      first_item-enough (bytes ++ more) (omega (arith, length-append bytes more))
      ∙ ap (λ (front : List ℕ). header_item (header_fault door (header_of front)) (header_of front) (drop 12 (bytes ++ more))) fixed
      ∙ ap (header_item (header_fault door (header_of (take 12 bytes))) (header_of (take 12 bytes))) after

  pub first_item-append_whole : (bytes more : List ℕ) (frame : Frame) (rest : List ℕ) → first_item door bytes ≡ whole frame rest → first_item door (bytes ++ more) ≡ whole frame (rest ++ more)
  first_item-append_whole bytes more frame rest e =
      elim (cases_lt (length bytes) 12) [
        | inl lt ↦ let no : unfinished ≡ whole frame rest = sym (first_item-short bytes lt) ∙ e in (cc)
        | inr le ↦
            first_item-append bytes more le
            ∙ header_item-append_whole (header_fault door (header_of (take 12 bytes))) (header_of (take 12 bytes)) (drop 12 bytes) more frame rest (sym (first_item-enough bytes le) ∙ e)
      ]

  pub first_item-append_refused : (bytes more : List ℕ) (reason : RefusedHeader) → first_item door bytes ≡ refused reason → first_item door (bytes ++ more) ≡ refused reason
  first_item-append_refused bytes more reason e =
      elim (cases_lt (length bytes) 12) [
        | inl lt ↦ let no : unfinished ≡ refused reason = sym (first_item-short bytes lt) ∙ e in (cc)
        | inr le ↦
            first_item-append bytes more le
            ∙ header_item-append_refused (header_fault door (header_of (take 12 bytes))) (header_of (take 12 bytes)) (drop 12 bytes) more reason (sym (first_item-enough bytes le) ∙ e)
      ]

  -- ---- a whole stream

  -- what the parts of a stream are, by the item that it begins with
  parts_by_same : (f g : List ℕ → Parts) (bytes : List ℕ) (item : Item) → first_item door bytes ≡ item → ((frame : Frame) (rest : List ℕ) → first_item door bytes ≡ whole frame rest → f rest ≡ g rest) → parts_by f item bytes ≡ parts_by g item bytes
  parts_by_same f g bytes (whole frame rest) e h = ap (before_parts (frame ∷ [])) (h frame rest e)
  parts_by_same f g bytes (refused reason) e h = refl
  parts_by_same f g bytes unfinished e h = refl

  -- more room for packets than bytes changes nothing
  enough_room : (most other : ℕ) (bytes : List ℕ) → length bytes ≤ most → length bytes ≤ other → cut_within door most bytes ≡ cut_within door other bytes
  unfolding cut_within
  enough_room zero zero bytes h k = refl
  enough_room zero (suc other) bytes h k = sym (rw (first_item-short bytes (omega arith)) refl)
  enough_room (suc most) zero bytes h k = rw (first_item-short bytes (omega arith)) refl
  enough_room (suc most) (suc other) bytes h k =
      parts_by_same (cut_within door most) (cut_within door other) bytes (first_item door bytes) refl
      (λ frame rest e.
      let it = first_item-whole bytes frame rest e in
      let fewer : length rest + 12 ≤ length bytes = omega (arith, ap length it.after, it.long, length-drop (12 + length frame.body) bytes) in
      enough_room most other rest (omega arith) (omega arith))

  cut_within-cut : (most : ℕ) (bytes : List ℕ) → length bytes ≤ most → cut_within door most bytes ≡ cut door bytes
  unfolding cut
  cut_within-cut most bytes h = enough_room most (length bytes) bytes h (omega arith)

  -- the parts of a stream are those of its first item and of what follows it
  pub cut-items : (bytes : List ℕ) → cut door bytes ≡ parts_by (cut door) (first_item door bytes) bytes
  unfolding cut_within
  cut-items bytes =
      sym (cut_within-cut (suc (length bytes)) bytes (omega arith))
      ∙ parts_by_same (cut_within door (length bytes)) (cut door) bytes (first_item door bytes) refl
      (λ frame rest e.
      let it = first_item-whole bytes frame rest e in
      cut_within-cut (length bytes) rest (omega (arith, ap length it.after, length-drop (12 + length frame.body) bytes)))

  continued-after : (frame : Frame) (packets : List Frame) (tail : Tail) (more : List ℕ) → resumed door (frame ∷ packets) tail more ≡ before_parts (frame ∷ []) (resumed door packets tail more)
  continued-after frame packets (open_end bytes) more = refl
  continued-after frame packets (fault reason) more = refl

  -- the parts of the whole stream, where those of what follows the first item are so
  continued_by : (bytes more : List ℕ) (item : Item) → first_item door bytes ≡ item → ((frame : Frame) (rest : List ℕ) → first_item door bytes ≡ whole frame rest → cut door (rest ++ more) ≡ continued door (cut door rest) more) → cut door (bytes ++ more) ≡ continued door (cut door bytes) more
  continued_by bytes more (whole frame rest) e h =
      let one : cut door bytes ≡ before_parts (frame ∷ []) (cut door rest) = cut-items bytes ∙ ap (λ (it : Item). parts_by (cut door) it bytes) e in
      let all : cut door (bytes ++ more) ≡ before_parts (frame ∷ []) (cut door (rest ++ more)) = cut-items (bytes ++ more) ∙ ap (λ (it : Item). parts_by (cut door) it (bytes ++ more)) (first_item-append_whole bytes more frame rest e) in
      all ∙ ap (before_parts (frame ∷ [])) (h frame rest e) ∙ sym (continued-after frame (cut door rest).packets (cut door rest).tail more) ∙ ap (λ (parts : Parts). continued door parts more) (sym one)
  continued_by bytes more (refused reason) e h =
      let one : cut door bytes ≡ only (fault reason) = cut-items bytes ∙ ap (λ (it : Item). parts_by (cut door) it bytes) e in
      let all : cut door (bytes ++ more) ≡ only (fault reason) = cut-items (bytes ++ more) ∙ ap (λ (it : Item). parts_by (cut door) it (bytes ++ more)) (first_item-append_refused bytes more reason e) in
      all ∙ ap (λ (parts : Parts). continued door parts more) (sym one)
  continued_by bytes more unfinished e h =
      let one : cut door bytes ≡ only (open_end bytes) = cut-items bytes ∙ ap (λ (it : Item). parts_by (cut door) it bytes) e in
      ap (λ (parts : Parts). continued door parts more) (sym one)

  cut-append_within : (most : ℕ) (bytes more : List ℕ) → length bytes ≤ most → cut door (bytes ++ more) ≡ continued door (cut door bytes) more
  cut-append_within zero bytes more h =
      continued_by bytes more (first_item door bytes) refl
      (λ frame rest e. let it = first_item-whole bytes frame rest e in absurd (omega (arith, it.long)))
  cut-append_within (suc most) bytes more h =
      continued_by bytes more (first_item door bytes) refl
      (λ frame rest e.
      let it = first_item-whole bytes frame rest e in
      cut-append_within most rest more (omega (arith, it.long, ap length it.after, length-drop (12 + length frame.body) bytes)))

  -- however a stream is cut into pieces, its parts are the same
  pub cut-append : (bytes more : List ℕ) → cut door (bytes ++ more) ≡ continued door (cut door bytes) more
  cut-append bytes more = cut-append_within (length bytes) bytes more (omega arith)

  -- ---- what is told of an item, and what is left

  pub left-packet : (bytes : List ℕ) (frame : Frame) → Packet frame ≡ told (first_item door bytes) → unread (drop (12 + length frame.body) bytes) ≡ left_by (first_item door bytes) bytes
  left-packet bytes frame e =
      let it = told-packet (first_item door bytes) frame (sym e) in
      ap unread (sym (first_item-whole bytes frame it.0 it.1).after) ∙ ap (λ (item : Item). left_by item bytes) (sym it.1)

  no_fault-short : (header : Header) → header_fault door header ≡ None → header.length < 2 ^ 32
  no_fault-short header e = grind (arith, nat_tests)

  -- a packet that is taken is the first item of the bytes that it is written at the head of
  pub first_item-frame_bytes : (frame : Frame) (rest : List ℕ) → IsTaken door frame → first_item door (frame_bytes frame ++ rest) ≡ whole frame rest
  first_item-frame_bytes frame rest taken =
      let same : header_of (header_bytes frame.header) ≡ frame.header = header_of-header_bytes frame.header taken.2 (no_fault-short frame.header taken.0) in
      let front : take frame.header.length (frame.body ++ rest) ≡ frame.body = take_at frame.body rest frame.header.length taken.1 in
      let back : drop frame.header.length (frame.body ++ rest) ≡ rest = drop_at frame.body rest frame.header.length taken.1 in
      let made : List ℕ → Frame = λ body. record frame { body = body } in
      first_item-enough (frame_bytes frame ++ rest) (omega arith)
      ∙ ap (λ (header : Header). header_item (header_fault door header) header (frame.body ++ rest)) same
      ∙ ap (λ (found : Option FrameFault). header_item found frame.header (frame.body ++ rest)) taken.0
      ∙ packet_item-enough frame.header (frame.body ++ rest) (omega (arith, length-append frame.body rest))
      ∙ ap (λ (body : List ℕ). whole (made body) (drop frame.header.length (frame.body ++ rest))) front
      ∙ ap (whole frame) back
