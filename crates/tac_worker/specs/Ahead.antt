-- The turn of what stands first on a connection, which is found before it is taken.
use Rattle.std.specs.Prelude.{◌≡◌, ◌<◌, ℕ, List, length, Option, Some, None, Result, IfOk, IfSome}
use Rattle.std.specs.Prelude.{Ok, Err, OnErr, Bool, true, false}
use Rattle.std.specs.declared.alloc.AllocError.{AllocError}
use Rattle.tac_conn.specs.declared.ask.Ask.{Ask}
use Rattle.tac_conn.specs.declared.step.Step.{Step}
use Rattle.tac_conn.specs.declared.step.Step.TheVariants as steps
use Rattle.tac_wire.specs.declared.door.Door.{Door}
use Rattle.tac_wire.specs.Stream.{cut}
use Rattle.tac_stream.specs.declared.stream.Stream.{Stream}
use Rattle.tac_stream.specs.declared.turn.Turn.{Turn}
use Rattle.tac_stream.specs.declared.turn.Turn.TheVariants as turns
use Rattle.tac_stream.specs.Turns.{IsTurn, slot_in, HasItsSlot}
use Rattle.tac_stream.specs.Kept.{IsReady, Stands, StandsAfter, Waits, closed_of, pending_of}
use Rattle.tac_stream.specs.Kept.{closes_by}
use Rattle.tac_worker.specs.declared.ahead.Ahead.{Ahead}
use Rattle.tac_worker.specs.declared.link.Digest.{Digest}
use Rattle.tac_worker.specs.declared.link.Digest.TheVariants as digests
use Rattle.tac_worker.specs.Linked.{IsOfPassword}

-- it is the turn of what stood first on this stream, which is the other one since
pub record IsTurnOf (door : Door) (was : Stream) (turn : Result Turn AllocError) (now : Stream)
    : Type 0 where
  pub found : (bytes : List ℕ) (taken : ℕ) → IsReady was → Stands door was bytes taken
      → IfOk turn (IsTurn door bytes taken)
  pub stands : (bytes : List ℕ) (taken : ℕ) → IsReady was → Stands door was bytes taken
      → IfOk turn (λ turn. StandsAfter turn door now bytes taken)
  pub closed : closed_of now ≡ closes_by turn
  pub pending : IsReady was → IfOk turn (λ turn. pending_of now ≡ slot_in turn)
  pub waits : IfOk turn (λ turn. Waits turn now)
  pub kind : IfOk turn HasItsSlot
  pub memory : (bytes : List ℕ) (taken : ℕ) → Stands door was bytes taken
      → OnErr turn (taken < length (cut door bytes).packets)

-- the stream as though nothing were found ahead
abbrev pub seen_by : Option Ahead → Stream → Stream
seen_by (Some ahead) stream = ahead.was.value
seen_by None stream = stream

-- what is found ahead is the turn of what stands first
abbrev pub IsAhead : Door → Option Ahead → Stream → Type 0
IsAhead door ahead stream = IfSome ahead (λ ahead. IsTurnOf door ahead.was.value ahead.turn stream)

-- ---- a password in what is found

abbrev pub ask_of_step : Step → Option Ask
ask_of_step (steps.Reply reply closes) = None
ask_of_step (steps.Asks ask slot) = Some ask
ask_of_step steps.Silent = None
ask_of_step steps.Close = None

abbrev pub ask_of : Result Turn AllocError → Option Ask
ask_of (Ok (turns.Packet packet step)) = ask_of_step step
ask_of (Ok turns.Need) = None
ask_of (Ok (turns.Refused header)) = None
ask_of (Ok turns.Close) = None
ask_of (Err error) = None

-- what is to be asked for it, if it was found
abbrev pub ask_ahead : Option Ahead → Option Ask
ask_ahead (Some ahead) = ask_of ahead.turn
ask_ahead None = None

abbrev pub IsSomeOfPassword : Option Ask → Type 0
IsSomeOfPassword (Some ask) = IsOfPassword ask
IsSomeOfPassword None = ⊥

-- whether a password is to be worked out first
abbrev pub waits : Digest → Bool
waits digests.Unknown = false
waits (digests.Needed hash) = true
waits digests.Awaited = true
waits digests.Settled = false

-- where one is, it is that of what was found ahead
abbrev pub WaitsForIt : Digest → Option Ahead → Type 0
WaitsForIt digest ahead = waits digest ≡ true → IsSomeOfPassword (ask_ahead ahead)
