-- What is kept of a connection, and what it represents.
use Rattle.std.specs.Prelude.{◌≡◌, ◌≤◌, ◌<◌, ℕ, suc, List, length, take, drop, Bool, true, false}
use Rattle.std.specs.Prelude.{Option, None, Result, Ok, Err}
use Rattle.std.specs.declared.alloc.AllocError.{AllocError}
use Rattle.tac_wire.specs.declared.door.Door.{Door}
use Rattle.tac_wire.specs.Stream.{Pending, unread, ended, cut}
use Rattle.tac_conn.specs.declared.ask.Slot.{Slot}
use Rattle.tac_conn.specs.Standing as conns
use Rattle.tac_stream.specs.Turns.{packets_of, turn_closes}
use Rattle.tac_stream.specs.declared.turn.Turn.{Turn}
use Rattle.tac_stream.specs.declared.turn.Turn.TheVariants.{Packet, Need, Refused, Close}
use Rattle.tac_stream.specs.declared.stream.Stream.{Stream}

abbrev pub closed_of : Stream → Bool
closed_of stream = stream.closed

-- the slot that waits for its answer
abbrev pub pending_of : Stream → Option Slot
pending_of stream = conns.pending_of stream.conn

-- it is open, and no answer is waited for
abbrev pub IsReady : Stream → Type 0
IsReady stream = (closed_of stream ≡ false) × (pending_of stream ≡ None)

-- it represents a connection on which these bytes came: so many of their packets were taken, and
-- what is held has the others, and the same tail
pub record Stands (door : Door) (stream : Stream) (bytes : List ℕ) (taken : ℕ) : Type 0 where
  pub held : List ℕ
  pub framer : stream.framer ≡ unread held
  pub left :
      cut door held
      ≡ record { packets = drop taken (cut door bytes).packets; tail = (cut door bytes).tail }
  pub within : taken ≤ length (cut door bytes).packets
  pub conn : conns.Stands stream.conn (packets_of door (take taken (cut door bytes).packets))

-- what it represents after this turn: the packet was taken, if there was one; closed, it represents
-- nothing
abbrev pub StandsAfter : Turn → Door → Stream → List ℕ → ℕ → Type 0
StandsAfter (Packet received step) door stream bytes taken = Stands door stream bytes (suc taken)
StandsAfter Need door stream bytes taken = Stands door stream bytes taken
StandsAfter (Refused header) door stream bytes taken = Unit {0}
StandsAfter Close door stream bytes taken = Unit {0}

-- an ask waits for its answer, and where nothing is asked nothing waits
abbrev pub Waits : Turn → Stream → Type 0
Waits (Packet received step) stream = pending_of stream ≡ conns.slot_in step
Waits Need stream = Unit {0}
Waits (Refused header) stream = Unit {0}
Waits Close stream = Unit {0}

-- how many bytes are held of which no packet was taken yet
abbrev pub unread_len : Pending → ℕ
unread_len (unread bytes) = length bytes
unread_len ended = 0

abbrev pub unread_of : Stream → ℕ
unread_of stream = unread_len stream.framer

-- a packet that is taken is no longer held
abbrev pub Shortens : Turn → Stream → Stream → Type 0
Shortens (Packet received step) old new = unread_of new < unread_of old
Shortens Need old new = Unit {0}
Shortens (Refused header) old new = Unit {0}
Shortens Close old new = Unit {0}

-- whether it closes: where memory ran out, a packet is lost
abbrev pub closes_by : Result Turn AllocError → Bool
closes_by (Ok turn) = turn_closes turn
closes_by (Err error) = true
