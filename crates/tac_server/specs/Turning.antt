-- How a piece of bytes is served, one turn after another.
use Rattle.std.specs.Prelude.{◌≡◌, ◌<◌, ℕ, suc, List, ◌++◌, Bool, true, false, Result, Ok, Err}
use Rattle.std.specs.declared.ops.ControlFlow.{ControlFlow}
use Rattle.std.specs.declared.ops.ControlFlow.TheVariants.{Continue, Break}
use Rattle.std.specs.declared.alloc.AllocError.{AllocError}
use Rattle.tac_wire.specs.declared.door.Door.{Door}
use Rattle.tac_wire.specs.Stream.{open_end, cut}
use Rattle.tac_conn.specs.declared.packet.Packet.{Packet}
use Rattle.tac_stream.specs.declared.stream.Stream.{Stream}
use Rattle.tac_stream.specs.Kept.{IsReady, Stands, unread_of}
use Rattle.tac_desk.specs.Meaning.{Meaning}
use Rattle.tac_desk.specs.Serving.{Said, said_part, said_from, said_on, said_first, whole_packets}
use Rattle.tac_server.specs.Kept.{Sends, Serves}

-- ---- one turn

-- how it goes on after a turn: by the next one, or not, and whether the connection closes then
abbrev pub Flow : Type 0
Flow = ControlFlow Bool (Unit {0})

-- after a packet was served, and the connection closes or not
abbrev pub after_reply : Bool → Flow
after_reply false = Continue tt
after_reply true = Break true

-- the next packet was served, and the connection stays open
pub record GoesOn (door : Door) (was now : Meaning) (old new : List ℕ) (stream : Stream)
    (bytes : List ℕ) (taken : ℕ) : Type 0 where
  pub packets : List Packet
  pub within : taken < whole_packets door bytes
  pub said : said_part door was bytes taken 1
      ≡ record { sent = packets; closes = false; meaning = now }
  pub sends : Sends door old new packets
  pub ready : IsReady stream
  pub stands : Stands door stream bytes (suc taken)

-- no packet is left, and nothing was done
pub record IsAtRest (door : Door) (was now : Meaning) (old new : List ℕ) (stream : Stream)
    (bytes : List ℕ) (taken : ℕ) : Type 0 where
  pub rest : List ℕ
  pub tail : (cut door bytes).tail ≡ open_end rest
  pub all : taken ≡ whole_packets door bytes
  pub nothing : new ≡ old
  pub same : now ≡ was
  pub ready : IsReady stream
  pub stands : Stands door stream bytes taken

-- all that is said was said, and the connection closes
pub record ClosesWith (door : Door) (was now : Meaning) (old new : List ℕ) (bytes : List ℕ)
    (taken : ℕ) : Type 0 where
  pub packets : List Packet
  pub said : said_from door was bytes taken
      ≡ record { sent = packets; closes = true; meaning = now }
  pub sends : Sends door old new packets

abbrev pub Goes : Flow → Door → Meaning → Meaning → List ℕ → List ℕ → Stream → List ℕ → ℕ → Type 0
Goes (Continue _) door was now old new stream bytes taken =
    GoesOn door was now old new stream bytes taken
Goes (Break false) door was now old new stream bytes taken =
    IsAtRest door was now old new stream bytes taken
Goes (Break true) door was now old new stream bytes taken =
    ClosesWith door was now old new bytes taken

-- each turn that goes on takes bytes from what is held
abbrev pub Shortens : Flow → Stream → Stream → Type 0
Shortens (Continue _) old new = unread_of new < unread_of old
Shortens (Break closes) old new = Unit {0}

-- ---- all turns of a piece

abbrev pub ServesUnless : Bool → Door → Stream → List ℕ → Type 0
ServesUnless false door stream bytes = Serves door stream bytes
ServesUnless true door stream bytes = Unit {0}

-- all was said to a piece, after which these bytes came
pub record SaysAll (door : Door) (now : Meaning) (old new : List ℕ) (closes : Bool)
    (stream : Stream) (bytes : List ℕ) (said : Said) : Type 0 where
  pub closing : closes ≡ said.closes
  pub meaning : now ≡ said.meaning
  pub sends : Sends door old new said.sent
  pub serves : ServesUnless closes door stream bytes

-- memory ran out after some of its packets
pub record SaysSome (door : Door) (was now : Meaning) (old new : List ℕ)
    (before piece : List ℕ) : Type 0 where
  pub count : ℕ
  pub packets : List Packet
  pub said : said_first door was before piece count
      ≡ record { sent = packets; closes = false; meaning = now }
  pub sends : Sends door old new packets

abbrev pub SaysPiece : Result Bool AllocError → Door → Meaning → Meaning → List ℕ → List ℕ
    → Stream → List ℕ → List ℕ → Type 0
SaysPiece (Ok closes) door was now old new stream before piece =
    SaysAll door now old new closes stream (before ++ piece) (said_on door was before piece)
SaysPiece (Err error) door was now old new stream before piece =
    SaysSome door was now old new before piece
