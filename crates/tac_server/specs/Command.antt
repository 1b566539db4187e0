-- What a line after `run` asks for.
use Rattle.std.specs.Prelude.{ℕ, List, [], ◌∷◌, ◌++◌, length, take, drop, codes, ◌==◌, nat_lt}
use Rattle.std.specs.Prelude.{Option, Some, None, if◌then◌else◌, option_map}
use Rattle.std.specs.Option.{option_and_then}
use Rattle.std.specs.Result.{result_ok}
use Rattle.std.specs.Str.{bytes_eq}
use Rattle.hex.specs.Hex.{decode_of}
use Rattle.basics.specs.Lines.{split_at_first, onto_first}
use Rattle.basics.specs.Number.{number_of}
use Rattle.tac_wire.specs.Header.{header_of}
use Rattle.tac_wire.specs.Pad.{padded}
use Rattle.tac_server.specs.Number.{connection_number_of}
use Rattle.tac_server.specs.declared.event.Event.{Event}
use Rattle.tac_server.specs.declared.event.Event.TheVariants.{Open, Hand, Pieces, Lost, Console}

-- the fields of a text, which single spaces separate
abbrev pub fields_of : List ℕ → List (List ℕ)
fields_of [] = [] ∷ []
fields_of (byte ∷ bytes) =
    if byte == 32 then [] ∷ fields_of bytes else onto_first byte (fields_of bytes)

-- one byte or more, each in two hexadecimal digits of either case
abbrev pub bytes_of : List ℕ → Option (List ℕ)
bytes_of [] = None
bytes_of (digit ∷ digits) = result_ok (decode_of (digit ∷ digits))

-- a clear packet as a client sends it: the pad is put on the body, by a header of twelve bytes that
-- is taken as written
abbrev pub wire_packet : List ℕ → List ℕ → Option (List ℕ)
wire_packet key bytes =
    if nat_lt (length bytes) 12 then None
    else Some (take 12 bytes ++ padded (header_of (take 12 bytes)) key (drop 12 bytes))

-- the packets that these fields spell, joined; nothing where one spells none
unfoldable pub wire_packets : List ℕ → List (List ℕ) → Option (List ℕ)
wire_packets key [] = Some []
wire_packets key (field ∷ fields) =
    option_and_then
    (λ packet. option_map (λ packets. packet ++ packets) (wire_packets key fields))
    (option_and_then (wire_packet key) (bytes_of field))

-- `N`, and what follows the space after it
abbrev pub numbered : List ℕ → Option (ℕ × List ℕ)
numbered text =
    option_and_then
    (λ parts. option_map (λ number. (number, parts.1)) (connection_number_of parts.0))
    (split_at_first 32 text)

-- `N` and, after a space, what spells the bytes that are handed in
abbrev pub hand_of : (List ℕ → Option (List ℕ)) → List ℕ → Option Event
hand_of spelled rest =
    option_and_then (λ parts. option_map (λ bytes. Hand parts.0 bytes) (spelled parts.1))
    (numbered rest)

-- 1 to 4 digits, not all of them 0
abbrev pub piece_size_of : List ℕ → Option ℕ
piece_size_of text =
    option_and_then (λ size. if size == 0 then None else Some size) (number_of 4 text)

-- a line by its first word, which a space follows
unfoldable pub event_by : List ℕ → List ℕ → List ℕ → Option Event
event_by key word rest =
    if bytes_eq word (codes "open")
    then option_map (λ number. Open number) (connection_number_of rest)
    else if bytes_eq word (codes "packet")
    then hand_of (λ text. wire_packets key (fields_of text)) rest
    else if bytes_eq word (codes "bytes") then hand_of bytes_of rest
    else if bytes_eq word (codes "pieces")
    then option_map (λ size. Pieces size) (piece_size_of rest)
    else if bytes_eq word (codes "lost")
    then option_map (λ number. Lost number) (connection_number_of rest)
    else if bytes_eq word (codes "console") then Some (Console rest)
    else None

-- what a line asks for; nothing where it is no command
unfoldable pub event_of : List ℕ → List ℕ → Option Event
event_of key line = option_and_then (λ parts. event_by key parts.0 parts.1) (split_at_first 32 line)
