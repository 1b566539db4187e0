-- What a caller did that many connections share, and how each of these stands.
use Rattle.std.specs.Prelude.{◌≡◌, ◌≢◌, ◌⊎◌, ◌<◌, ◌+◌, ℕ, List, [], ◌∷◌, ◌++◌, map, All}
use Rattle.std.specs.Prelude.{Contains, Option, Some, None, slice_index_or}
use Rattle.std.specs.Prelude.{slice_set, Bool, false, ◌==◌}
use Rattle.tac_wire.specs.declared.door.Door.{Door}
use Rattle.tac_conn.specs.declared.ask.Ask.{Ask}
use Rattle.tac_audit.specs.declared.notice.Notice.{Notice}
use Rattle.tac_hall.specs.declared.fault.HallFault.{HallFault}
use Rattle.tac_worker.specs.Linked.{StandsSo}
use Rattle.tac_worker.specs.Noting.{answered}
use Rattle.tac_worker.specs.Worked.{Exchange}
use Rattle.tac_worker.specs.declared.line.Line.{Line}
use Rattle.tac_worker.specs.declared.stop.Stop.{Stop}
use Rattle.tac_worker.specs.declared.stop.Stop.TheVariants.{Absent}
use Rattle.tac_worker.specs.Calls.{Call, calls_of, AreCalled, WasAfter}
use Rattle.tac_worker.specs.Steps.{begun, GoesUpTo, woken}

-- who calls for many connections, and those connections
pub record Board (C V S : Type 0) : Type 0 where
  -- the caller, at first and now
  pub first : C
  pub caller : C
  -- at each key the connection that is served under it, or none
  pub lines : List (Option (Line C V S))
  -- under which key the next one is put
  pub vacant : ℕ
  -- how many there were; they are numbered from 0
  pub next : ℕ
  -- those that were removed, in that order, each as it was then
  pub over : List (Line C V S)

module _ {C V S : Type 0} where
  -- without a connection
  abbrev pub idle : C → Board C V S
  idle caller =
      record { first = caller; caller = caller; lines = []; vacant = 0; next = 0; over = [] }

  -- the connection that is served under this key
  abbrev pub at : List (Option (Line C V S)) → ℕ → Option (Line C V S)
  at lines key = slice_index_or lines key None

  -- a connection is served, and has this number
  abbrev pub is_numbered : ℕ → Option (Line C V S) → Bool
  is_numbered number None = false
  is_numbered number (Some line) = line.number == number

  -- each connection, whether it is served or was removed, is so
  abbrev pub AreAll : (Line C V S → Type 0) → Board C V S → Type 0
  AreAll is board =
      ((key : ℕ) (line : Line C V S) → at board.lines key ≡ Some line → is line)
      × All is board.over

  -- ---- each by its number

  -- a connection of this number is served, or was removed
  abbrev pub IsKnown : Board C V S → ℕ → Type 0
  IsKnown board number =
      ((key : ℕ) × (line : Line C V S) × (at board.lines key ≡ Some line)
      × (line.number ≡ number))
      ⊎ Contains (map (λ line. line.number) board.over) number

  -- none of these has the number of another
  abbrev pub AreApart : List (Line C V S) → Type 0
  AreApart [] = Unit {0}
  AreApart (line ∷ lines) = All (λ other. other.number ≢ line.number) lines × AreApart lines

  -- ---- one more

  -- the next connection, which has this door, witness and socket
  abbrev pub came : Door → V → S → Board C V S → Line C V S
  came door witness socket board = begun board.next door witness socket board.caller

  -- this connection came, and was put under a key that had none
  pub record Adds (line : Line C V S) (key : ℕ) (was now : Board C V S) : Type 0 where
    pub at_vacant : key ≡ was.vacant
    pub none_there : at was.lines key ≡ None
    pub here : at now.lines key ≡ Some line
    pub others : (other : ℕ) → other ≢ key → at now.lines other ≡ at was.lines other
    pub rest : now ≡ record was {
      lines = now.lines;
      vacant = now.vacant;
      next = was.next + 1;
    }

  -- ---- one less

  -- it isn't served any more, and its key is the next
  abbrev pub removed : ℕ → Line C V S → Board C V S → Board C V S
  removed key line board = record board {
    lines = slice_set board.lines key None;
    vacant = key;
    over = board.over ++ line ∷ [];
  }

  abbrev pub removed_at : Option (Line C V S) → ℕ → Board C V S → Board C V S
  removed_at (Some line) key board = removed key line board
  removed_at None key board = board

-- ---- some turns

-- by a caller that makes exchanges by such steps, and rests so, where so much is left to read of a
-- socket, and this stands written on it
module _ {C V S : Type 0} (makes : C → Exchange → C → Type 0) (rests : C → C → Type 0)
    (remaining contents : S → Option (List ℕ)) where
  -- this connection had at most so many steps, and was left so; the others stay as they are
  pub record ServesOne (turns key : ℕ) (line : Line C V S) (stop : Stop) (was now : Board C V S)
      : Type 0 where
    pub then : Line C V S
    pub goes : GoesUpTo makes rests remaining contents turns stop (woken line) then was.caller
        now.caller
    pub rest : now ≡ record was {
      caller = now.caller;
      lines = slice_set was.lines key (Some then);
    }

  -- the one of this key, if there is one; else nothing was done
  abbrev pub ServesAt : Option (Line C V S) → ℕ → ℕ → Stop → Board C V S → Board C V S → Type 0
  ServesAt (Some line) turns key stop was now = ServesOne turns key line stop was now
  ServesAt None turns key stop was now = (stop ≡ Absent) × (now ≡ was)

-- ---- the whole

-- by a caller that makes exchanges by such steps, rests so, and is refused asks so, and witnesses
-- that take notices so, and refuse them so
module _ {C V S : Type 0} (makes : C → Exchange → C → Type 0) (rests : C → C → Type 0)
    (refuses : C → Ask → HallFault → Type 0) (takes refuses_notice : V → Notice → V → Type 0) where
  -- what was called for it are exactly the calls of its number, in their order, and it stands so:
  -- they are the first asks of its bytes, and what was put on it is what is sent by their answers.
  -- Where its next ask was refused, that is by the caller as it was after the first of the calls
  pub record IsAccounted (first : C) (calls : List Call) (next : ℕ) (line : Line C V S) : Type 0
    where
      pub called : line.link.called ≡ map answered (calls_of line.number calls)
      pub numbered : line.number < next
      pub caller : WasAfter makes rests first calls line.link.caller
      pub stands : StandsSo refuses takes refuses_notice line.link.end line.link

  -- the caller made these calls, and no others, each for a connection that is served or was removed
  pub record IsWorking (board : Board C V S) : Type 0 where
    pub calls : List Call
    pub made : AreCalled makes rests board.first calls board.caller
    pub given : All (λ call. call.number < board.next) calls
    pub served : (key : ℕ) (line : Line C V S) → at board.lines key ≡ Some line
        → IsAccounted board.first calls board.next line
    pub over : All (λ line. IsAccounted board.first calls board.next line) board.over
    -- no two have one number, and each number is of one
    pub known : (number : ℕ) → number < board.next → IsKnown board number
    pub apart : (one two : ℕ) (line other : Line C V S) → at board.lines one ≡ Some line
        → at board.lines two ≡ Some other → line.number ≡ other.number → one ≡ two
    pub gone : All (λ line. (key : ℕ) (other : Line C V S) → at board.lines key ≡ Some other
        → other.number ≢ line.number) board.over
    pub removed_apart : AreApart board.over
