-- A line asks for what it spells.
use Rattle.std.proofs.Common.{◌≡◌, ◌≢◌, ℕ, zero, suc, ◌+◌, ◌-◌, ◌*◌, ◌%◌, ◌≤◌, ◌&&◌, Bool, true, false, not, cond, eqb, List, [], ◌∷◌, ◌++◌, length, take, drop, codes, Option, Some, None, Result, Ok, Err, nat_le, nat_lt, inl, inr, refl, sym, ap, subst, ◌∙◌, append_assoc, append-nil, arith}
use Rattle.std.specs.Option.{option_map, option_and_then}
use Rattle.std.specs.Result.{result_ok}
use Rattle.std.specs.Str.{bytes_eq}
use Rattle.std.proofs.lemmas.Bool.{cases_lt, le-leb, lt-leb, and_parts, and_from, eqb-true}
use Rattle.std.proofs.lemmas.Bool.Decides.{nat_tests}
use Rattle.std.proofs.lemmas.Slice.Eq.{bytes_eq-Decides}
use Rattle.hex.specs.Hex.{hex_digit_value, digit_or_error, value_at, pair_value, decode_pairs, decode_of, ◌>>=◌}
use Rattle.hex.specs.declared.error.FromHexError.{FromHexError}
use Rattle.hex.specs.declared.error.FromHexError.TheVariants.{OddLength}
use Rattle.hex.proofs.HexLemmas.{decode_of-even}
use Rattle.basics.specs.Lines.{split_at_first, onto_first}
use Rattle.basics.specs.Number.{digits_after, number_of}
use Rattle.tac_wire.specs.Header.{header_of}
use Rattle.tac_wire.specs.Pad.{padded}
use Rattle.basics.proofs.LineFacts.{parts_joined}
use Rattle.tac_server.specs.Number.{connection_number_of}
use Rattle.tac_server.specs.Command.{fields_of, bytes_of, wire_packet, wire_packets, numbered, hand_of, piece_size_of, event_by, event_of}
use Rattle.tac_server.specs.Spelling.{SpellsNumber, SpellsSize, SpellsPairs, SpellsBytes, SpellsPacket, spaced, SpellPackets, SpellsEvent, EventLaw}
use Rattle.tac_server.specs.declared.event.Event.{Event}
use Rattle.tac_server.specs.declared.event.Event.TheVariants.{Open, Hand, Pieces, Lost, Console}
use Rattle.tac_server.proofs.EventFacts.{fields_of-split, fields_of-whole}

-- ---- steps

abbrev done : {A : Type 0} → A → Option A
done x = Some x

done_is : {A : Type 0} (x y : A) → done x ≡ done y → x ≡ y
done_is x y e = cc

bound : {A B : Type 0} (f : A → Option B) (o : Option A) (y : B) → option_and_then f o ≡ Some y → (x : A) × (o ≡ Some x) × (f x ≡ Some y)
bound f (Some x) y e = (x, refl, e)
bound f None y e = absurd cc

mapped : {A B : Type 0} (f : A → B) (o : Option A) (y : B) → option_map f o ≡ Some y → (x : A) × (o ≡ Some x) × (f x ≡ y)
mapped f (Some x) y e = (x, refl, done_is (f x) y e)
mapped f None y e = absurd cc

choice : {A : Type 0} (G : Type 0) (b : Bool) (x y z : A) → cond b x y ≡ z → (b ≡ true → x ≡ z → G) → (y ≡ z → G) → G
choice G true x y z e here next = here refl e
choice G false x y z e here next = next e

-- ---- texts without a space

joined_4 : (a b c d : List ℕ) → ((a ++ b) ++ c) ++ d ≡ a ++ (b ++ (c ++ d))
joined_4 a b c d = simp append_assoc

abbrev is_spaceless : List ℕ → Bool
is_spaceless [] = true
is_spaceless (byte ∷ bytes) = not (eqb byte 32) && is_spaceless bytes

not_true : (b : Bool) → not b ≡ true → b ≡ false
not_true true e = absurd cc
not_true false e = refl

split_whole : (text : List ℕ) → is_spaceless text ≡ true → split_at_first 32 text ≡ None
split_whole [] plain = refl
split_whole (byte ∷ text) plain =
    let parts = and_parts (not (eqb byte 32)) (is_spaceless text) plain in
    rw (not_true (eqb byte 32) parts.0, split_whole text parts.1) refl

split_front : (text rest : List ℕ) → is_spaceless text ≡ true → split_at_first 32 (text ++ 32 ∷ rest) ≡ Some (text, rest)
split_front [] rest plain = refl
split_front (byte ∷ text) rest plain =
    let parts = and_parts (not (eqb byte 32)) (is_spaceless text) plain in
    rw (not_true (eqb byte 32) parts.0, split_front text rest parts.1) refl

-- ---- numbers

digits_case : (byte : ℕ) (text : List ℕ) (b : Bool) (o : Option ℕ) (n : ℕ) → (b ≡ true → not (eqb byte 32) ≡ true) → (o ≡ Some n → is_spaceless text ≡ true)
    → cond b o None ≡ Some n → is_spaceless (byte ∷ text) ≡ true
digits_case byte text true o n here rest e = and_from (not (eqb byte 32)) (is_spaceless text) (here refl) (rest e)
digits_case byte text false o n here rest e = absurd cc

digits_spaceless : (value n : ℕ) (text : List ℕ) → digits_after value text ≡ Some n → is_spaceless text ≡ true
digits_spaceless value n [] e = refl
digits_spaceless value n (byte ∷ text) e =
    digits_case byte text (nat_le 48 byte && nat_le byte 57) (digits_after (value * 10 + (byte - 48)) text) n
    (λ test. grind (arith, nat_tests)) (digits_spaceless (value * 10 + (byte - 48)) n text) e

number_case : (b : Bool) (text : List ℕ) (n : ℕ) → cond b (digits_after 0 text) None ≡ Some n → is_spaceless text ≡ true
number_case true text n e = digits_spaceless 0 n text e
number_case false text n e = absurd cc

number_spaceless : (digits : List ℕ) (number : ℕ) → SpellsNumber digits number → is_spaceless digits ≡ true
number_spaceless digits number h = number_case (nat_lt 0 (length digits) && nat_le (length digits) 5) digits number h.0

at_most : (value number : ℕ) → cond (nat_le value 65535) (done value) None ≡ Some number → (value ≡ number) × (number ≤ 65535)
at_most value number e =
    elim (cases_lt 65535 value) [
      | inl lt ↦ let none : None ≡ Some number = sym (rw (lt-leb value 65535 lt) refl) ∙ e in cc
      | inr le ↦
          let same : value ≡ number = done_is value number (sym (rw (le-leb value 65535 le) refl) ∙ e) in
          (same, subst (λ (n : ℕ). n ≤ 65535) same le)
    ]

number_found : (digits : List ℕ) (number : ℕ) → connection_number_of digits ≡ Some number → SpellsNumber digits number
number_found digits number e =
    let value = bound _ (number_of 5 digits) number e in
    let fits = at_most value.0 number value.2 in
    (value.1 ∙ ap done fits.0, fits.1)

number_back : (digits : List ℕ) (number : ℕ) → SpellsNumber digits number → connection_number_of digits ≡ Some number
number_back digits number h = rw (h.0, le-leb number 65535 h.1) refl

some_size : (value : ℕ) → 1 ≤ value → eqb value 0 ≡ false
some_size value h = grind (arith, nat_tests)

size_case : (value size : ℕ) → cond (eqb value 0) None (done value) ≡ Some size → (value ≡ size) × (1 ≤ size)
size_case zero size e = absurd cc
size_case (suc value) size e =
    let some : eqb (suc value) 0 ≡ false = some_size (suc value) (omega arith) in
    let same : suc value ≡ size = done_is (suc value) size (rw some at e) in
    (same, subst (λ (n : ℕ). 1 ≤ n) same (omega arith))

size_found : (digits : List ℕ) (size : ℕ) → piece_size_of digits ≡ Some size → SpellsSize digits size
size_found digits size e =
    let value = bound _ (number_of 4 digits) size e in
    let some = size_case value.0 size value.2 in
    (value.1 ∙ ap done some.0, some.1)

size_back : (digits : List ℕ) (size : ℕ) → SpellsSize digits size → piece_size_of digits ≡ Some size
size_back digits zero h = absurd (omega (arith, h.1))
size_back digits (suc size) h = rw (h.0, some_size (suc size) h.1) refl

-- ---- hexadecimal digits

abbrev read : {A : Type 0} → A → Result A FromHexError
read x = Ok x

read_is : {A : Type 0} (x y : A) → read x ≡ read y → x ≡ y
read_is x y e = cc

step : {A B : Type 0} (r : Result A FromHexError) (f : A → Result B FromHexError) (y : B) → (r >>= f) ≡ Ok y → (x : A) × (r ≡ Ok x) × (f x ≡ Ok y)
step (Ok x) f y e = (x, refl, e)
step (Err fault) f y e = absurd cc

digit_found : (c i : ℕ) (o : Option ℕ) (value : ℕ) → digit_or_error c i o ≡ Ok value → o ≡ Some value
digit_found c i (Some other) value e = ap done (read_is other value e)
digit_found c i None value e = absurd cc

pairs_found : (i : ℕ) (digits bytes : List ℕ) → decode_pairs i digits ≡ Ok bytes → SpellsPairs digits bytes
unfolding decode_pairs
pairs_found i [] bytes e = sym (read_is [] bytes e)
pairs_found i (digit ∷ []) bytes e = absurd cc
pairs_found i (high ∷ low ∷ digits) bytes e =
    let byte = step (pair_value high low i) _ bytes e in
    let h = step (value_at high i) _ byte.0 byte.1 in
    let l = step (value_at low (i + 1)) _ byte.0 h.2 in
    let more = step (decode_pairs (i + 2) digits) _ bytes byte.2 in
    let made : h.0 * 16 + l.0 ≡ byte.0 = read_is (h.0 * 16 + l.0) byte.0 l.2 in (
      h.0,
      l.0,
      more.0,
      digit_found high i (hex_digit_value high) h.0 h.1,
      digit_found low (i + 1) (hex_digit_value low) l.0 l.1,
      sym (read_is (byte.0 ∷ more.0) bytes more.2) ∙ ap (λ (b : ℕ). b ∷ more.0) (sym made),
      pairs_found (i + 2) digits more.0 more.1,
    )

pairs_back : (i : ℕ) (digits bytes : List ℕ) → SpellsPairs digits bytes → decode_pairs i digits ≡ Ok bytes
unfolding decode_pairs
pairs_back i [] bytes h = rw h refl
pairs_back i (digit ∷ []) bytes h = absurd h
pairs_back i (high ∷ low ∷ digits) bytes h = rw (h.3, h.4, pairs_back (i + 2) digits h.2 h.6, h.5) refl

pairs_even : (digits bytes : List ℕ) → SpellsPairs digits bytes → length digits % 2 ≡ 0
pairs_even [] bytes h = refl
pairs_even (digit ∷ []) bytes h = absurd h
pairs_even (high ∷ low ∷ digits) bytes h = let even = pairs_even digits h.2 h.6 in omega (arith, even)

some_bytes : (digits bytes : List ℕ) (digit : ℕ) → SpellsPairs (digit ∷ digits) bytes → bytes ≢ []
some_bytes [] bytes digit h none = h
some_bytes (low ∷ digits) bytes digit h none = let no : (h.0 * 16 + h.1) ∷ h.2 ≡ [] = sym h.5 ∙ none in cc

ok_found : (r : Result (List ℕ) FromHexError) (bytes : List ℕ) → result_ok r ≡ Some bytes → r ≡ Ok bytes
ok_found (Ok found) bytes e = ap (λ (b : List ℕ). Ok b) (done_is found bytes e)
ok_found (Err fault) bytes e = absurd cc

bytes_found : (digits bytes : List ℕ) → bytes_of digits ≡ Some bytes → SpellsBytes digits bytes
bytes_found [] bytes e = absurd cc
bytes_found (digit ∷ digits) bytes e =
    choice _ _ (Err OddLength) (decode_pairs 0 (digit ∷ digits)) (Ok bytes) (ok_found (decode_of (digit ∷ digits)) bytes e)
    (λ odd none. absurd cc)
    (λ pairs. let h = pairs_found 0 (digit ∷ digits) bytes pairs in (some_bytes digits bytes digit h, h))

bytes_back : (digits bytes : List ℕ) → SpellsBytes digits bytes → bytes_of digits ≡ Some bytes
bytes_back [] bytes h = absurd (h.0 h.1)
bytes_back (digit ∷ digits) bytes h =
    rw (decode_of-even (digit ∷ digits) (pairs_even (digit ∷ digits) bytes h.1), pairs_back 0 (digit ∷ digits) bytes h.1) refl

digit_spaceless : (c value : ℕ) → hex_digit_value c ≡ Some value → not (eqb c 32) ≡ true
digit_spaceless c value e = grind (arith, nat_tests)

pairs_spaceless : (digits bytes : List ℕ) → SpellsPairs digits bytes → is_spaceless digits ≡ true
pairs_spaceless [] bytes h = refl
pairs_spaceless (digit ∷ []) bytes h = absurd h
pairs_spaceless (high ∷ low ∷ digits) bytes h =
    and_from (not (eqb high 32)) (is_spaceless (low ∷ digits)) (digit_spaceless high h.0 h.3)
    (and_from (not (eqb low 32)) (is_spaceless digits) (digit_spaceless low h.1 h.4) (pairs_spaceless digits h.2 h.6))

-- ---- packets

packet_case : (key clear packet : List ℕ) → wire_packet key clear ≡ Some packet → (12 ≤ length clear) × (packet ≡ take 12 clear ++ padded (header_of (take 12 clear)) key (drop 12 clear))
packet_case key clear packet e =
    choice _ (nat_lt (length clear) 12) None (done (take 12 clear ++ padded (header_of (take 12 clear)) key (drop 12 clear))) (done packet) e
    (λ short none. absurd cc)
    (λ made. (grind (arith, nat_tests), sym (done_is _ packet made)))

packet_found : (key field packet : List ℕ) → option_and_then (wire_packet key) (bytes_of field) ≡ Some packet → SpellsPacket key field packet
packet_found key field packet e =
    let clear = bound (wire_packet key) (bytes_of field) packet e in
    let h = packet_case key clear.0 packet clear.2 in
    record { clear = clear.0; spells = bytes_found field clear.0 clear.1; long = h.0; sent = h.1 }

long_enough : (clear : List ℕ) → 12 ≤ length clear → nat_lt (length clear) 12 ≡ false
long_enough clear h = grind (arith, nat_tests)

packet_back : (key field packet : List ℕ) → SpellsPacket key field packet → option_and_then (wire_packet key) (bytes_of field) ≡ Some packet
packet_back key field packet h = rw (bytes_back field h.clear h.spells, long_enough h.clear h.long, h.sent) refl

packets_found : (key : List ℕ) (fields : List (List ℕ)) (bytes : List ℕ) → wire_packets key fields ≡ Some bytes → SpellPackets key fields bytes
unfolding wire_packets
packets_found key [] bytes e = sym (done_is [] bytes e)
packets_found key (field ∷ fields) bytes e =
    let packet = bound _ (option_and_then (wire_packet key) (bytes_of field)) bytes e in
    let more = mapped (λ (packets : List ℕ). packet.0 ++ packets) (wire_packets key fields) bytes packet.2 in
    (packet.0, more.0, sym more.2, packet_found key field packet.0 packet.1, packets_found key fields more.0 more.1)

packets_back : (key : List ℕ) (fields : List (List ℕ)) (bytes : List ℕ) → SpellPackets key fields bytes → wire_packets key fields ≡ Some bytes
unfolding wire_packets
packets_back key [] bytes h = rw h refl
packets_back key (field ∷ fields) bytes h = rw (packet_back key field h.0 h.3, packets_back key fields h.1 h.4, h.2) refl

-- ---- fields

onto_spaced : (byte : ℕ) (bytes : List ℕ) (fields : List (List ℕ)) → 32 ∷ bytes ≡ spaced fields → 32 ∷ byte ∷ bytes ≡ spaced (onto_first byte fields)
onto_spaced byte bytes [] e = absurd cc
onto_spaced byte bytes (field ∷ fields) e =
    let same : bytes ≡ field ++ spaced fields = ap (drop 1) e in
    ap (λ (t : List ℕ). 32 ∷ byte ∷ t) same

spaced_case : (byte : ℕ) (bytes : List ℕ) (b : Bool) → (b ≡ true → byte ≡ 32) → 32 ∷ bytes ≡ spaced (fields_of bytes)
    → 32 ∷ byte ∷ bytes ≡ spaced (cond b ([] ∷ fields_of bytes) (onto_first byte (fields_of bytes)))
spaced_case byte bytes true here below = ap (λ (c : ℕ). 32 ∷ c ∷ bytes) (here refl) ∙ ap (λ (t : List ℕ). 32 ∷ t) below
spaced_case byte bytes false here below = onto_spaced byte bytes (fields_of bytes) below

-- a text is its fields
spaced_fields : (bytes : List ℕ) → 32 ∷ bytes ≡ spaced (fields_of bytes)
spaced_fields [] = refl
spaced_fields (byte ∷ bytes) = spaced_case byte bytes (eqb byte 32) (eqb-true byte 32) (spaced_fields bytes)

some_fields : (bytes : List ℕ) → fields_of bytes ≢ []
some_fields bytes none = let no : 32 ∷ bytes ≡ [] = spaced_fields bytes ∙ ap spaced none in cc

fields_back : (key field : List ℕ) (fields : List (List ℕ)) (more : List ℕ) → is_spaceless field ≡ true → SpellPackets key fields more → fields_of (field ++ spaced fields) ≡ field ∷ fields
fields_back key field [] more plain h = ap fields_of (append-nil field) ∙ fields_of-whole field (split_whole field plain)
fields_back key field (next ∷ fields) more plain h =
    fields_of-split (field ++ 32 ∷ (next ++ spaced fields)) field (next ++ spaced fields) (split_front field (next ++ spaced fields) plain)
    ∙ ap (λ (l : List (List ℕ)). field ∷ l) (fields_back key next fields h.1 (pairs_spaceless next h.3.clear h.3.spells.1) h.4)

-- ---- bytes that are handed in

record IsHanded (spelled : List ℕ → Option (List ℕ)) (rest : List ℕ) (event : Event) : Type 0 where
  number : ℕ
  bytes : List ℕ
  digits : List ℕ
  text : List ℕ
  split : rest ≡ digits ++ 32 ∷ text
  numbers : SpellsNumber digits number
  spells : spelled text ≡ Some bytes
  is : Hand number bytes ≡ event

hand_found : (spelled : List ℕ → Option (List ℕ)) (rest : List ℕ) (event : Event) → hand_of spelled rest ≡ Some event → IsHanded spelled rest event
hand_found spelled rest event e =
    let front = bound _ (numbered rest) event e in
    let bytes = mapped (λ (bytes : List ℕ). Hand front.0.0 bytes) (spelled front.0.1) event front.2 in
    let parts = bound _ (split_at_first 32 rest) front.0 front.1 in
    let number = mapped (λ (number : ℕ). (number, parts.0.1)) (connection_number_of parts.0.0) front.0 parts.2 in
    let same : number.0 ≡ front.0.0 = ap (λ (p : ℕ × List ℕ). p.0) number.2 in
    let after : parts.0.1 ≡ front.0.1 = ap (λ (p : ℕ × List ℕ). p.1) number.2 in
    record {
      number = front.0.0;
      bytes = bytes.0;
      digits = parts.0.0;
      text = front.0.1;
      split = parts_joined 32 rest parts.0.0 parts.0.1 parts.1 ∙ ap (λ (t : List ℕ). parts.0.0 ++ 32 ∷ t) after;
      numbers = subst (SpellsNumber parts.0.0) same (number_found parts.0.0 number.0 number.1);
      spells = bytes.1;
      is = bytes.2;
    }

hand_back : (spelled : List ℕ → Option (List ℕ)) (digits text : List ℕ) (number : ℕ) (bytes : List ℕ) → SpellsNumber digits number → spelled text ≡ Some bytes
    → hand_of spelled (digits ++ 32 ∷ text) ≡ Some (Hand number bytes)
hand_back spelled digits text number bytes h e = rw (split_front digits text (number_spaceless digits number h), number_back digits number h, e) refl

bytes_line : (key rest : List ℕ) (event : Event) → hand_of bytes_of rest ≡ Some event → SpellsEvent key (codes "bytes " ++ rest) event
bytes_line key rest event e =
    let it = hand_found bytes_of rest event e in
    subst (SpellsEvent key (codes "bytes " ++ rest)) it.is
    (inl (it.digits, it.text, ap (λ (t : List ℕ). codes "bytes " ++ t) it.split ∙ sym (joined_4 (codes "bytes ") it.digits (codes " ") it.text), it.numbers, bytes_found it.text it.bytes it.spells))

packets_line : (key rest : List ℕ) (event : Event) → hand_of (λ text. wire_packets key (fields_of text)) rest ≡ Some event → SpellsEvent key (codes "packet " ++ rest) event
packets_line key rest event e =
    let it = hand_found (λ text. wire_packets key (fields_of text)) rest event e in
    subst (SpellsEvent key (codes "packet " ++ rest)) it.is
    (inr (
      it.digits,
      fields_of it.text,
      some_fields it.text,
      ap (λ (t : List ℕ). codes "packet " ++ t) (it.split ∙ ap (λ (t : List ℕ). it.digits ++ t) (spaced_fields it.text)) ∙ sym (append_assoc (codes "packet ") it.digits (spaced (fields_of it.text))),
      it.numbers,
      packets_found key (fields_of it.text) it.bytes it.spells,
    ))

-- ---- whole lines

word_is : (word wanted : List ℕ) → bytes_eq word wanted ≡ true → word ≡ wanted
word_is word wanted e = (bytes_eq-Decides word wanted).0 e

open_line : (key rest : List ℕ) (event : Event) → option_map Open (connection_number_of rest) ≡ Some event → SpellsEvent key (codes "open " ++ rest) event
open_line key rest event e =
    let number = mapped Open (connection_number_of rest) event e in
    subst (SpellsEvent key (codes "open " ++ rest)) number.2 (rest, refl, number_found rest number.0 number.1)

lost_line : (key rest : List ℕ) (event : Event) → option_map Lost (connection_number_of rest) ≡ Some event → SpellsEvent key (codes "lost " ++ rest) event
lost_line key rest event e =
    let number = mapped Lost (connection_number_of rest) event e in
    subst (SpellsEvent key (codes "lost " ++ rest)) number.2 (rest, refl, number_found rest number.0 number.1)

pieces_line : (key rest : List ℕ) (event : Event) → option_map Pieces (piece_size_of rest) ≡ Some event → SpellsEvent key (codes "pieces " ++ rest) event
pieces_line key rest event e =
    let size = mapped Pieces (piece_size_of rest) event e in
    subst (SpellsEvent key (codes "pieces " ++ rest)) size.2 (rest, refl, size_found rest size.0 size.1)

console_line : (key rest : List ℕ) (event : Event) → done (Console rest) ≡ Some event → SpellsEvent key (codes "console " ++ rest) event
console_line key rest event e = subst (SpellsEvent key (codes "console " ++ rest)) (done_is (Console rest) event e) refl

word_found : (key word rest : List ℕ) (event : Event) → event_by key word rest ≡ Some event → SpellsEvent key (word ++ 32 ∷ rest) event
unfolding event_by
word_found key word rest event e =
    on (codes "open") _ _ e (open_line key rest event)
    (λ e. on (codes "packet") _ _ e (packets_line key rest event)
    (λ e. on (codes "bytes") _ _ e (bytes_line key rest event)
    (λ e. on (codes "pieces") _ _ e (pieces_line key rest event)
    (λ e. on (codes "lost") _ _ e (lost_line key rest event)
    (λ e. on (codes "console") _ None e (console_line key rest event)
    (λ none. absurd cc))))))
  where
    on : (wanted : List ℕ) (x y : Option Event) → cond (bytes_eq word wanted) x y ≡ Some event
        → (x ≡ Some event → SpellsEvent key (wanted ++ 32 ∷ rest) event) → (y ≡ Some event → SpellsEvent key (word ++ 32 ∷ rest) event) → SpellsEvent key (word ++ 32 ∷ rest) event
    on wanted x y e here next =
        choice _ (bytes_eq word wanted) x y (done event) e
        (λ is made. subst (λ (w : List ℕ). SpellsEvent key (w ++ 32 ∷ rest) event) (sym (word_is word wanted is)) (here made))
        next

-- what is read is spelled so
pub event_found : (key line : List ℕ) (event : Event) → event_of key line ≡ Some event → SpellsEvent key line event
unfolding event_of
event_found key line event e =
    let parts = bound _ (split_at_first 32 line) event e in
    subst (λ (l : List ℕ). SpellsEvent key l event) (sym (parts_joined 32 line parts.0.0 parts.0.1 parts.1)) (word_found key parts.0.0 parts.0.1 event parts.2)

abbrev by_line : List ℕ → List ℕ → Option Event
by_line key line = option_and_then (λ parts. event_by key parts.0 parts.1) (split_at_first 32 line)

packets_event : (key digits : List ℕ) (fields : List (List ℕ)) (number : ℕ) (bytes : List ℕ) → fields ≢ [] → SpellsNumber digits number → SpellPackets key fields bytes
    → by_line key (codes "packet " ++ (digits ++ spaced fields)) ≡ Some (Hand number bytes)
unfolding event_by
packets_event key digits [] number bytes some h p = absurd (some refl)
packets_event key digits (field ∷ fields) number bytes some h p =
    hand_back (λ text. wire_packets key (fields_of text)) digits (field ++ spaced fields) number bytes h
    (ap (wire_packets key) (fields_back key field fields p.1 (pairs_spaceless field p.3.clear p.3.spells.1) p.4) ∙ packets_back key (field ∷ fields) bytes p)

line_back : (key line : List ℕ) (event : Event) → SpellsEvent key line event → by_line key line ≡ Some event
unfolding event_by
line_back key line (Open number) h = rw h.1 (ap (option_map Open) (number_back h.0 number h.2))
line_back key line (Hand number bytes) (inl h) =
    ap (by_line key) (h.2 ∙ joined_4 (codes "bytes ") h.0 (codes " ") h.1) ∙ hand_back bytes_of h.0 h.1 number bytes h.3 (bytes_back h.1 bytes h.4)
line_back key line (Hand number bytes) (inr h) =
    ap (by_line key) (h.3 ∙ append_assoc (codes "packet ") h.0 (spaced h.1)) ∙ packets_event key h.0 h.1 number bytes h.2 h.4 h.5
line_back key line (Pieces size) h = rw h.1 (ap (option_map Pieces) (size_back h.0 size h.2))
line_back key line (Lost number) h = rw h.1 (ap (option_map Lost) (number_back h.0 number h.2))
line_back key line (Console text) h = rw h refl

-- what is spelled so is read
pub event_back : (key line : List ℕ) (event : Event) → SpellsEvent key line event → event_of key line ≡ Some event
unfolding event_of
event_back key line event h = line_back key line event h

pub event_law : EventLaw
event_law key line event = (event_found key line event, event_back key line event)
