-- What is done with one of many connections, one step after another.
use Rattle.std.specs.Prelude.{◌≡◌, ◌≤◌, ℕ, zero, suc, List, length, take}
use Rattle.std.specs.Prelude.{Bool, true, false, Option, Some, None}
use Rattle.std.specs.Io.KnownBytes.{Appends}
use Rattle.tac_wire.specs.declared.door.Door.{Door}
use Rattle.tac_worker.specs.declared.due.Due.{Due}
use Rattle.tac_worker.specs.declared.due.Due.TheVariants as next
use Rattle.tac_worker.specs.declared.end.End.{End}
use Rattle.tac_worker.specs.Linked.{Linked, fresh, due_of, AsksPassword, Turns, Hears}
use Rattle.tac_worker.specs.Linked.{after_sending}
use Rattle.tac_worker.specs.Worked.{Exchange}
use Rattle.tac_worker.specs.declared.line.Line.{Line}
use Rattle.tac_worker.specs.declared.stop.Stop.{Stop}
use Rattle.tac_worker.specs.declared.stop.Stop.TheVariants.{Busy, Idle, Digest, Full, Ended, Broken}

-- ---- when it is left

-- by what is due, how it ended, and whether a read would wait, a write would wait or failed
abbrev pub stop_by : Due → Option End → Bool → Bool → Bool → Option Stop
stop_by next.Turn end idle full broken = None
stop_by next.Hear end true full broken = Some Idle
stop_by next.Hear end false full broken = None
stop_by next.Send end idle full true = Some Broken
stop_by next.Send end idle true false = Some Full
stop_by next.Send end idle false false = None
stop_by next.Close (Some end) idle full broken = Some (Ended end)
stop_by next.Close None idle full broken = None

-- else its turns are used up
abbrev pub or_busy : Option Stop → Stop
or_busy (Some stop) = stop
or_busy None = Busy

module _ {C V S : Type 0} where
  -- a connection on which nothing came
  abbrev pub begun : ℕ → Door → V → S → C → Line C V S
  begun number door witness socket caller = record {
    number = number;
    link = fresh door witness caller;
    source = record { socket = socket; idle = false; full = false; broken = false };
  }

  abbrev pub stop_of : Line C V S → Option Stop
  stop_of line =
      stop_by (due_of line.link) line.link.end line.source.idle line.source.full line.source.broken

  abbrev pub stopped : Line C V S → Stop
  stopped line = or_busy (stop_of line)

  -- it is left so; or, where a turn is due and the next ask is of a password, until that is worked
  -- out
  abbrev pub IsLeft : Stop → Line C V S → Type 0
  IsLeft Digest line = (due_of line.link ≡ next.Turn) × AsksPassword line.link
  IsLeft stop line = stop ≡ stopped line

  -- its socket may be ready again
  abbrev pub woken : Line C V S → Line C V S
  woken line = record line { source = record line.source { idle = false; full = false } }

-- ---- a step

-- by a caller that makes exchanges by such steps, and rests so, where so much is left to read of a
-- socket, and this stands written on it
module _ {C V S : Type 0} (makes : C → Exchange → C → Type 0) (rests : C → C → Type 0)
    (remaining contents : S → Option (List ℕ)) where
  -- a write: the socket took the first of what waits, so many bytes, none where it failed
  pub record Sends (was now : Linked C V) (before after : S) : Type 0 where
    pub n : ℕ
    pub bound : n ≤ length was.pending
    pub bytes : Appends (contents before) (contents after) (take n was.pending)
    pub link : now ≡ after_sending n was

  -- what is due was done: a turn, a read or a write; else nothing
  abbrev pub StepsAt : Due → Line C V S → Line C V S → C → C → Type 0
  StepsAt next.Turn was now before after =
      Turns makes rests was.link now.link before after × (now ≡ record was { link = now.link })
  StepsAt next.Hear was now before after =
      Hears was.link now.link (remaining was.source.socket) (remaining now.source.socket)
      × (now.number ≡ was.number) × (after ≡ before)
  StepsAt next.Send was now before after =
      Sends was.link now.link was.source.socket now.source.socket
      × (now.number ≡ was.number) × (after ≡ before)
  StepsAt next.Close was now before after = (now ≡ was) × (after ≡ before)

  -- so many steps were done, one after another
  unfoldable pub Goes : ℕ → Line C V S → Line C V S → C → C → Type 0
  Goes zero was now before after = (now ≡ was) × (after ≡ before)
  Goes (suc n) was now before after =
      (then : Line C V S) × (mid : C) × Goes n was then before mid
      × StepsAt (due_of then.link) then now mid after

  -- at most so many, and no fewer unless it is left
  pub record GoesUpTo (turns : ℕ) (stop : Stop) (was now : Line C V S) (before after : C) : Type 0
    where
      pub steps : ℕ
      pub few : steps ≤ turns
      pub goes : Goes steps was now before after
      pub left : IsLeft stop now
      pub all : stop ≡ Busy → steps ≡ turns
