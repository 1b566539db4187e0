-- Which line after `run` spells which event, by cases (docs/SCRIPT.md, "Events").
--
--   event  = "open " number | "packet " number " " hex { " " hex } | "bytes " number " " hex
--          | "pieces " size | "lost " number | "console " text
--   number = 1 to 5 digits, at most 65,535
--   size   = 1 to 4 digits, at least 1
--   hex    = digit digit { digit digit }
--   digit  = a hexadecimal digit, of either case
--   text   = { byte }
use Rattle.std.specs.Prelude.{◌≡◌, ◌≢◌, ◌≤◌, ◌⊎◌, ◌↔◌, ℕ, ◌+◌, ◌*◌, List, [], ◌∷◌, ◌++◌}
use Rattle.std.specs.Prelude.{length, take, drop, codes, Some}
use Rattle.std.specs.List.{flat_map}
use Rattle.hex.specs.Hex.{hex_digit_value}
use Rattle.basics.specs.Number.{number_of}
use Rattle.tac_wire.specs.Header.{header_of}
use Rattle.tac_wire.specs.Pad.{padded}
use Rattle.tac_server.specs.Command.{event_of}
use Rattle.tac_server.specs.declared.event.Event.{Event}
use Rattle.tac_server.specs.declared.event.Event.TheVariants.{Open, Hand, Pieces, Lost, Console}

-- the digits spell the number, also with leading zeros
abbrev pub SpellsNumber : List ℕ → ℕ → Type 0
SpellsNumber digits number = (number_of 5 digits ≡ Some number) × (number ≤ 65535)

abbrev pub SpellsSize : List ℕ → ℕ → Type 0
SpellsSize digits size = (number_of 4 digits ≡ Some size) × (1 ≤ size)

-- bytes, each in two hexadecimal digits
abbrev pub SpellsPairs : List ℕ → List ℕ → Type 0
SpellsPairs [] bytes = bytes ≡ []
SpellsPairs (digit ∷ []) bytes = ⊥
SpellsPairs (high ∷ low ∷ digits) bytes =
    (h l : ℕ) × (more : List ℕ) × (hex_digit_value high ≡ Some h)
    × (hex_digit_value low ≡ Some l) × (bytes ≡ (h * 16 + l) ∷ more) × SpellsPairs digits more

-- one byte or more
abbrev pub SpellsBytes : List ℕ → List ℕ → Type 0
SpellsBytes digits bytes = (bytes ≢ []) × SpellsPairs digits bytes

-- the digits spell a clear packet, a whole header at least, and this is how a client sends it: the
-- pad is put on its body, by the header as it is written
pub record SpellsPacket (key digits packet : List ℕ) : Type 0 where
  pub clear : List ℕ
  pub spells : SpellsBytes digits clear
  pub long : 12 ≤ length clear
  pub sent : packet ≡ take 12 clear ++ padded (header_of (take 12 clear)) key (drop 12 clear)

-- fields, each after a space
abbrev pub spaced : List (List ℕ) → List ℕ
spaced fields = flat_map (λ field. codes " " ++ field) fields

-- each field spells a packet, and these are the bytes of all of them
abbrev pub SpellPackets : List ℕ → List (List ℕ) → List ℕ → Type 0
SpellPackets key [] bytes = bytes ≡ []
SpellPackets key (field ∷ fields) bytes =
    (packet more : List ℕ) × (bytes ≡ packet ++ more) × SpellsPacket key field packet
    × SpellPackets key fields more

-- the words of each event; bytes are handed in as they are, or as packets
abbrev pub SpellsEvent : List ℕ → List ℕ → Event → Type 0
SpellsEvent key line (Open number) =
    (digits : List ℕ) × (line ≡ codes "open " ++ digits) × SpellsNumber digits number
SpellsEvent key line (Hand number bytes) =
    ((digits hex : List ℕ) × (line ≡ codes "bytes " ++ digits ++ codes " " ++ hex)
    × SpellsNumber digits number × SpellsBytes hex bytes)
    ⊎ ((digits : List ℕ) × (fields : List (List ℕ)) × (fields ≢ [])
    × (line ≡ codes "packet " ++ digits ++ spaced fields)
    × SpellsNumber digits number × SpellPackets key fields bytes)
SpellsEvent key line (Pieces size) =
    (digits : List ℕ) × (line ≡ codes "pieces " ++ digits) × SpellsSize digits size
SpellsEvent key line (Lost number) =
    (digits : List ℕ) × (line ≡ codes "lost " ++ digits) × SpellsNumber digits number
SpellsEvent key line (Console text) = line ≡ codes "console " ++ text

-- a line asks for what it spells
abbrev pub EventLaw : Type 0
EventLaw = (key line : List ℕ) (event : Event) → (event_of key line ≡ Some event)
    ↔ SpellsEvent key line event
