-- A beginning of the bytes that come on a connection, as long as its first packets.
use Rattle.std.proofs.Common.{◌≡◌, ℕ, zero, suc, ◌<◌, ◌≤◌, List, [], ◌∷◌, ◌++◌, append_assoc, append-nil, length, take, drop, refl, sym, ap, ◌∙◌, arith, inl, inr, Option, Some, None}
use Rattle.std.proofs.Math.Seq.{take-append_seam}
use Rattle.std.proofs.lemmas.Bool.{cases_lt, le-leb, lt-leb}
use Rattle.std.proofs.lemmas.List.{append_cancel_left, length-take, length-append, take-append-le, drop-append-le, take-append-drop, take_at, drop_at}
use Rattle.tac_wire.specs.declared.door.Door.{Door}
use Rattle.tac_wire.specs.declared.header.Header.{Header}
use Rattle.tac_wire.specs.declared.frame.Frame.{Frame}
use Rattle.tac_wire.specs.declared.frame.FrameFault.{FrameFault}
use Rattle.tac_wire.specs.Header.{header_of}
use Rattle.tac_wire.specs.Stream.{Tail, open_end, Parts, only, before_parts, parts_by, cut_within, cut, resumed, Item, whole, refused, unfinished, header_fault, packet_item, header_item, first_item}
use Rattle.tac_wire.proofs.StreamFacts.{first_item-whole, cut-items, cut-append}
use Rattle.tac_stream.specs.Turns.{packets_of}
use Rattle.tac_desk.specs.Meaning.{Meaning}
use Rattle.tac_desk.specs.Serving.{said_to, said_on, said_first}
use Rattle.tac_desk.proofs.ServingFacts.{said_to-none, said_on-parts}

-- ---- lists

drop_front : (front rest : List Frame) → drop (length front) (front ++ rest) ≡ rest
drop_front [] rest = refl
drop_front (frame ∷ front) rest = drop_front front rest

none_before : (front rest : List Frame) → [] ≡ front ++ rest → front ≡ []
none_before [] rest e = refl
none_before (frame ∷ front) rest e = absurd cc

module _ (door : Door) where
  -- ---- one packet

  -- what is known of a packet that was taken under this header
  record IsTakenBy (header : Header) (tail : List ℕ) (frame : Frame) (rest : List ℕ) : Type 0 where
    free : header_fault door header ≡ None
    long : length frame.body ≡ header.length
    split : frame.body ++ rest ≡ tail
    same : record { header = header; body = frame.body } ≡ frame

  packet_taken : (header : Header) (tail : List ℕ) (frame : Frame) (rest : List ℕ) → header_fault door header ≡ None → packet_item header tail ≡ whole frame rest → IsTakenBy header tail frame rest
  packet_taken header tail frame rest free e =
      elim (cases_lt (length tail) header.length) [
        | inl lt ↦ let no : unfinished ≡ whole frame rest = sym (rw (lt-leb header.length (length tail) lt) refl) ∙ e in (cc)
        | inr le ↦
            let made : Frame = record { header = header; body = take header.length tail } in
            let item : packet_item header tail ≡ whole made (drop header.length tail) = rw (le-leb header.length (length tail) le) refl in
            let same : whole made (drop header.length tail) ≡ whole frame rest = sym item ∙ e in
            let frames : made ≡ frame = cc in
            let body : take header.length tail ≡ frame.body = ap (λ (f : Frame). f.body) frames in
            let left : drop header.length tail ≡ rest = cc in
            record {
              free = free;
              long = ap length (sym body) ∙ omega (arith, length-take header.length tail);
              split = ap (λ (b : List ℕ). b ++ rest) (sym body) ∙ ap (λ (r : List ℕ). take header.length tail ++ r) (sym left) ∙ take-append-drop header.length tail;
              same = ap (λ (b : List ℕ). record { header = header; body = b }) (sym body) ∙ frames;
            }
      ]

  taken_by : (reason : Option FrameFault) (header : Header) (tail : List ℕ) (frame : Frame) (rest : List ℕ) → header_fault door header ≡ reason → header_item reason header tail ≡ whole frame rest → IsTakenBy header tail frame rest
  taken_by (Some reason) header tail frame rest free e = cc
  taken_by None header tail frame rest free e = packet_taken header tail frame rest free e

  enough : (bytes : List ℕ) → 12 ≤ length bytes → first_item door bytes ≡ header_item (header_fault door (header_of (take 12 bytes))) (header_of (take 12 bytes)) (drop 12 bytes)
  unfolding first_item
  enough bytes h = rw (le-leb 12 (length bytes) h) refl

  -- the bytes of the first packet, which is taken whatever follows them
  record FirstBytes (bytes : List ℕ) (frame : Frame) (rest : List ℕ) : Type 0 where
    front : List ℕ
    split : front ++ rest ≡ bytes
    taken : (more : List ℕ) → first_item door (front ++ more) ≡ whole frame more

  first_bytes : (bytes : List ℕ) (frame : Frame) (rest : List ℕ) → first_item door bytes ≡ whole frame rest → FirstBytes bytes frame rest
  first_bytes bytes frame rest e =
      let it = first_item-whole door bytes frame rest e in
      let le : 12 ≤ length bytes = omega (arith, it.long) in
      let head : List ℕ = take 12 bytes in
      let header : Header = header_of head in
      let size : length head ≡ 12 = omega (arith, length-take 12 bytes) in
      let by = taken_by (header_fault door header) header (drop 12 bytes) frame rest refl (sym (enough bytes le) ∙ e) in
      record {
        front = head ++ frame.body;
        split = append_assoc head frame.body rest ∙ ap (λ (t : List ℕ). head ++ t) by.split ∙ take-append-drop 12 bytes;
        taken = λ more.
            let grouped : (head ++ frame.body) ++ more ≡ head ++ (frame.body ++ more) = append_assoc head frame.body more in
            let long : 12 ≤ length (head ++ (frame.body ++ more)) = omega (arith, length-append head (frame.body ++ more)) in
            let fits : header.length ≤ length (frame.body ++ more) = omega (arith, by.long, length-append frame.body more) in
            ap (first_item door) grouped
            ∙ enough (head ++ (frame.body ++ more)) long
            ∙ ap (λ (h : List ℕ). header_item (header_fault door (header_of h)) (header_of h) (drop 12 (head ++ (frame.body ++ more)))) (take_at head (frame.body ++ more) 12 size)
            ∙ ap (header_item (header_fault door header) header) (drop_at head (frame.body ++ more) 12 size)
            ∙ ap (λ (reason : Option FrameFault). header_item reason header (frame.body ++ more)) by.free
            ∙ rw (le-leb header.length (length (frame.body ++ more)) fits) refl
            ∙ ap (λ (b : List ℕ). whole (record { header = header; body = b }) (drop header.length (frame.body ++ more))) (take_at frame.body more header.length by.long)
            ∙ ap (whole (record { header = header; body = frame.body })) (drop_at frame.body more header.length by.long)
            ∙ ap (λ (f : Frame). whole f more) by.same;
      }

  -- ---- the first packets

  cut_none : cut door [] ≡ only (open_end [])
  unfolding cut cut_within
  cut_none = refl

  -- the bytes of the first packets, so many of them or all
  record Front (bytes : List ℕ) (count : ℕ) : Type 0 where
    front : List ℕ
    rest : List ℕ
    split : front ++ rest ≡ bytes
    parts : cut door front ≡ record { packets = take count (cut door bytes).packets; tail = open_end [] }

  -- there is no packet
  no_front : (bytes : List ℕ) (count : ℕ) (tail : Tail) → cut door bytes ≡ only tail → Front bytes (suc count)
  no_front bytes count tail e = record {
    front = [];
    rest = bytes;
    split = refl;
    parts = cut_none ∙ ap (λ (p : Parts). record { packets = take (suc count) p.packets; tail = open_end [] }) (sym e);
  }

  front_by : (bytes : List ℕ) (count : ℕ) (item : Item) → first_item door bytes ≡ item → ((rest : List ℕ) → Front rest count) → Front bytes (suc count)
  front_by bytes count (whole frame rest) e below =
      let first = first_bytes bytes frame rest e in
      let next = below rest in
      let parts : cut door bytes ≡ before_parts (frame ∷ []) (cut door rest) = cut-items door bytes ∙ ap (λ (it : Item). parts_by (cut door) it bytes) e in
      record {
        front = first.front ++ next.front;
        rest = next.rest;
        split = append_assoc first.front next.front next.rest ∙ ap (λ (t : List ℕ). first.front ++ t) next.split ∙ first.split;
        parts = cut-items door (first.front ++ next.front)
            ∙ ap (λ (it : Item). parts_by (cut door) it (first.front ++ next.front)) (first.taken next.front)
            ∙ ap (before_parts (frame ∷ [])) next.parts
            ∙ ap (λ (p : Parts). record { packets = take (suc count) p.packets; tail = open_end [] }) (sym parts);
      }
  front_by bytes count (refused reason) e below = no_front bytes count _ (cut-items door bytes ∙ ap (λ (it : Item). parts_by (cut door) it bytes) e)
  front_by bytes count unfinished e below = no_front bytes count _ (cut-items door bytes ∙ ap (λ (it : Item). parts_by (cut door) it bytes) e)

  front_of : (count : ℕ) (bytes : List ℕ) → Front bytes count
  front_of zero bytes = record { front = []; rest = bytes; split = refl; parts = cut_none }
  front_of (suc count) bytes = front_by bytes count (first_item door bytes) refl (front_of count)

  -- ---- a beginning of a piece

  -- the beginning of a piece to which is said what is said to so many of its packets
  pub record IsBegun (meaning : Meaning) (before piece : List ℕ) (count : ℕ) : Type 0 where
    pub front : List ℕ
    pub rest : List ℕ
    pub split : piece ≡ front ++ rest
    pub said : said_on door meaning before front ≡ said_first door meaning before piece count

  module _ (meaning : Meaning) (before piece held : List ℕ) (count : ℕ) (tail : (cut door before).tail ≡ open_end held) where
    old : List Frame
    old = (cut door before).packets

    -- the parts, when more has come
    more_parts : (more : List ℕ) → cut door (before ++ more) ≡ before_parts (cut door before).packets (cut door (held ++ more))
    more_parts more = cut-append door before more ∙ ap (λ (t : Tail). resumed door (cut door before).packets t more) tail

    here : cut door before ≡ before_parts (cut door before).packets (cut door held)
    here = ap (cut door) (sym (append-nil before)) ∙ more_parts [] ∙ ap (λ (b : List ℕ). before_parts (cut door before).packets (cut door b)) (append-nil held)

    -- what is held is no packet yet
    none_held : (cut door held).packets ≡ []
    none_held = append_cancel_left (cut door before).packets (cut door held).packets [] (sym (ap (λ (p : Parts). p.packets) here) ∙ sym (append-nil (cut door before).packets))

    first_told : said_first door meaning before piece count ≡ said_to door meaning (packets_of door (cut door before).packets) (take count (cut door (held ++ piece)).packets) (open_end [])
    first_told = rw (more_parts piece, drop_front (cut door before).packets (cut door (held ++ piece)).packets, take-append_seam (cut door before).packets (cut door (held ++ piece)).packets) refl

    module _ (f : Front (held ++ piece) count) where
      -- no packet is among them
      begun_none : length f.front < length held → IsBegun meaning before piece count
      begun_none lt =
          let n : ℕ = length f.front in
          let begins : f.front ≡ take n held =
          sym (take_at f.front f.rest n refl) ∙ ap (take n) f.split ∙ take-append-le n held piece (omega arith) in
          let again : f.front ++ drop n held ≡ held = ap (λ (b : List ℕ). b ++ drop n held) begins ∙ take-append-drop n held in
          let parts : cut door held ≡ before_parts (take count (cut door (held ++ piece)).packets) (cut door ([] ++ drop n held)) =
          ap (cut door) (sym again) ∙ cut-append door f.front (drop n held) ∙ ap (λ (p : Parts). resumed door p.packets p.tail (drop n held)) f.parts in
          let none : take count (cut door (held ++ piece)).packets ≡ [] = none_before _ _ (sym none_held ∙ ap (λ (p : Parts). p.packets) parts) in
          let same : cut door (before ++ []) ≡ record { packets = (cut door before).packets ++ []; tail = open_end held } =
          ap (cut door) (append-nil before) ∙ ap (λ (t : Tail). record { packets = (cut door before).packets; tail = t }) tail
          ∙ ap (λ (l : List Frame). record { packets = l; tail = open_end held }) (sym (append-nil (cut door before).packets)) in
          record {
            front = [];
            rest = piece;
            split = refl;
            said = said_on-parts door meaning before [] (cut door before).packets [] (open_end held) refl same
                ∙ said_to-none door meaning (packets_of door (cut door before).packets) (open_end held)
                ∙ sym (said_to-none door meaning (packets_of door (cut door before).packets) (open_end []))
                ∙ ap (λ (l : List Frame). said_to door meaning (packets_of door (cut door before).packets) l (open_end [])) (sym none)
                ∙ sym first_told;
          }

      -- they end in the piece
      begun_some : length held ≤ length f.front → IsBegun meaning before piece count
      begun_some le =
          let n : ℕ = length held in
          let more : List ℕ = drop n f.front in
          let begins : take n f.front ≡ held = sym (take-append-le n f.front f.rest le) ∙ ap (take n) f.split ∙ take_at held piece n refl in
          let again : held ++ more ≡ f.front = ap (λ (b : List ℕ). b ++ more) (sym begins) ∙ take-append-drop n f.front in
          let left : more ++ f.rest ≡ piece = sym (drop-append-le n f.front f.rest le) ∙ ap (drop n) f.split ∙ drop_at held piece n refl in
          let parts : cut door (before ++ more) ≡ record { packets = (cut door before).packets ++ take count (cut door (held ++ piece)).packets; tail = open_end [] } =
          more_parts more ∙ ap (λ (b : List ℕ). before_parts (cut door before).packets (cut door b)) again ∙ ap (before_parts (cut door before).packets) f.parts in
          record {
            front = more;
            rest = f.rest;
            split = sym left;
            said = said_on-parts door meaning before more (cut door before).packets (take count (cut door (held ++ piece)).packets) (open_end []) refl parts ∙ sym first_told;
          }

    pub begun_by : IsBegun meaning before piece count
    begun_by =
        let f = front_of count (held ++ piece) in
        elim (cases_lt (length f.front) (length held)) [
          | inl lt ↦ begun_none f lt
          | inr le ↦ begun_some f le
        ]
