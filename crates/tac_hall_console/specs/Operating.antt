-- How a console goes on, one line after another.
use Rattle.std.specs.Prelude.{◌≡◌, ◌≤◌, ◌<◌, ◌⊎◌, ℕ, List, [], ◌∷◌, ◌++◌, length, true}
use Rattle.std.specs.Prelude.{Option, None, Result, Ok, Err}
use Rattle.std.specs.Io.KnownBytes.{Appends, Consumes, IsAtEnd}
use Rattle.basics.specs.Lines.{split_at_first, lines_of}
use Rattle.pol_edit.specs.declared.edit.Edit.{Edit}
use Rattle.tac_audit.specs.Witness.{AreTold}
use Rattle.tac_audit.specs.declared.notice.Typing.{Typing}
use Rattle.tac_hall.specs.Room.{Opening}
use Rattle.tac_hall.specs.Seat.{Seated}
use Rattle.tac_hall_console.specs.declared.answering.Console.{Console}
use Rattle.tac_hall_console.specs.declared.fault.OperatorFault.{OperatorFault}
use Rattle.tac_hall_console.specs.declared.fault.OperatorFault.TheVariants as faults
use Rattle.tac_hall_console.specs.declared.operator.Went.{Went}
use Rattle.tac_hall_console.specs.declared.operator.Went.TheVariants.{On, Quits}
use Rattle.tac_hall_console.specs.Commands.{ended_lines, commands, quits}
use Rattle.tac_hall_console.specs.Operated.{Outcome, StopComesTo, StopEnds}
use Rattle.tac_hall_console.specs.Operated.{batch_by, CameTo, told}
use Rattle.tac_hall_console.specs.Operated.{typings_of, quit_of, AreTypingsOf, answers_of}
use Rattle.tac_hall_console.specs.Operated.{WritesBeginning, WritesTo}
use Rattle.tac_hall_console.specs.Operated.{lines_at, HaveEnded, Leaves, Finishes}

-- ---- one line

-- of what may come of a line or a call this came, with this seat after it, and this text tells it
pub record Tells (may : Outcome → Seated → Type 0) (now : Seated) (text : List ℕ) : Type 0 where
  pub outcome : Outcome
  pub came : may outcome now
  pub is : text ≡ told outcome

-- the same, where the text is added to another
abbrev pub Adds : (Outcome → Seated → Type 0) → Seated → List ℕ → List ℕ → Type 0
Adds may now old new = (text : List ℕ) × (new ≡ old ++ text) × Tells may now text

-- memory ran out: nothing came of it, or what came isn't told
abbrev pub IsUntold : (Outcome → Seated → Type 0) → Seated → Seated → Type 0
IsUntold may was now = (now ≡ was) ⊎ ((outcome : Outcome) × may outcome now)

-- a text was written, or a beginning of it
abbrev pub Sends : Result (Unit {0}) OperatorFault → List ℕ → Option (List ℕ) → Option (List ℕ)
    → Type 0
Sends (Ok _) text old new = Appends old new text
Sends (Err faults.WriteFault) text old new = WritesBeginning text old new
Sends (Err fault) text old new = ⊥

-- the same, where memory may run out before
abbrev pub SendsUnlessMemory : Result (Unit {0}) OperatorFault → List ℕ → Option (List ℕ)
    → Option (List ℕ) → Type 0
SendsUnlessMemory (Err faults.Memory) text old new = Appends old new []
SendsUnlessMemory end text old new = Sends end text old new

-- ---- lines, one after another

-- the batch that these lines leave
abbrev pub batch_left : Option (List Edit) → List (List ℕ) → Option (List Edit)
batch_left batch [] = batch
batch_left batch (line ∷ lines) = batch_left (batch_by batch line) lines

-- no line ends in these bytes
abbrev pub IsOpen : List ℕ → Type 0
IsOpen bytes = split_at_first 10 bytes ≡ None

-- reading isn't what failed
abbrev pub IsRead : Result (Unit {0}) OperatorFault → Type 0
IsRead (Err faults.ReadFault) = ⊥
IsRead end = Unit {0}

-- what a console has at some time: its seat and batch, its witness, and what was written
pub record Scene (J V : Type 0) : Type 0 where
  pub console : Console J
  pub witness : V
  pub written : Option (List ℕ)

abbrev pub scene : {J V : Type 0} → Console J → V → Option (List ℕ) → Scene J V
scene console witness written =
    record { console = console; witness = witness; written = written }

-- `hears` says how the witness is told of a line
module _ {J V : Type 0} (hears : V → Typing → V → Type 0) where
  -- these bytes were gone through up to what is left of them: whatever comes later, the lines that
  -- ended before that were answered, and the later ones are the lines of what is left
  pub record GoesOn (opening : Opening) (bytes left : List ℕ) (was now : Scene J V) : Type 0 where
    pub answered : List (List ℕ)
    pub lines : (more : List ℕ)
        → commands (lines_of (bytes ++ more)) ≡ answered ++ commands (lines_of (left ++ more))
    pub ended : (more : List ℕ)
        → commands (ended_lines (bytes ++ more)) ≡ answered ++ commands (ended_lines (left ++ more))
    pub quitting : (more : List ℕ)
        → quits (lines_of (bytes ++ more)) ≡ quits (lines_of (left ++ more))
    pub quitting_ended : (more : List ℕ)
        → quits (ended_lines (bytes ++ more)) ≡ quits (ended_lines (left ++ more))
    pub within : length left ≤ length bytes
    pub outcomes : List Outcome
    pub came : CameTo opening was.console.batch was.console.seat answered outcomes now.console.seat
    pub batch : now.console.batch ≡ batch_left was.console.batch answered
    pub heard : AreTold hears was.witness (typings_of answered outcomes) now.witness
    pub written : Appends was.written now.written (answers_of (typings_of answered outcomes))

  -- of these commands the first were answered, and it ends, where this is told after all of them
  pub record EndsAt (opening : Opening) (end : Result (Unit {0}) OperatorFault)
      (lines : List (List ℕ)) (last : List Typing) (was now : Scene J V) : Type 0 where
    pub answered : List (List ℕ)
    pub left : List (List ℕ)
    pub parts : lines ≡ answered ++ left
    pub leaves : Leaves end left
    pub outcomes : List Outcome
    pub came : CameTo opening was.console.batch was.console.seat answered outcomes now.console.seat
    pub typings : List Typing
    pub tells : AreTypingsOf end answered left outcomes last typings
    pub heard : AreTold hears was.witness typings now.witness
    pub writes : WritesTo end typings was.written now.written

  -- the batch is as the line leaves it, unless it ends there
  abbrev pub LeavesBatch : Result (Unit {0}) OperatorFault → List ℕ → Scene J V → Scene J V → Type 0
  LeavesBatch (Ok _) line was now = now.console.batch ≡ batch_by was.console.batch line
  LeavesBatch (Err fault) line was now = Unit {0}

  -- a line was answered, or it ends there
  abbrev pub Answers : Opening → Result (Unit {0}) OperatorFault → List ℕ → Scene J V → Scene J V
      → Type 0
  Answers opening end line was now =
      IsRead end × LeavesBatch end line was now × EndsAt opening end (line ∷ []) [] was now

  -- the lines of a piece were answered, or it ends at one of them
  abbrev pub Took : Opening → Result Went OperatorFault → List ℕ → List ℕ → List ℕ → Scene J V
      → Scene J V → Type 0
  Took opening (Ok On) begun piece next was now =
      IsOpen next × GoesOn opening (begun ++ piece) next was now
  Took opening (Ok Quits) begun piece next was now =
      (quits (ended_lines (begun ++ piece)) ≡ true)
      × EndsAt opening (Ok tt) (commands (ended_lines (begun ++ piece)))
      (quit_of (ended_lines (begun ++ piece))) was now
  Took opening (Err fault) begun piece next was now =
      IsRead (Err fault)
      × EndsAt opening (Err fault) (commands (ended_lines (begun ++ piece))) [] was now

  -- ---- the whole input

  -- all that was read is answered, up to what has begun of a line
  pub record Listens (opening : Opening) (begun : List ℕ) (was now : Scene J V)
      (before after : Option (List ℕ)) : Type 0 where
    pub input : List ℕ
    pub read : Consumes before after input
    pub goes : GoesOn opening input begun was now
    pub opens : IsOpen begun

  -- the input was listened to, until `quit`, its end or a fault ended that
  pub record HasListened (opening : Opening) (listened : Result (Unit {0}) OperatorFault)
      (was now : Scene J V) (before after : Option (List ℕ)) : Type 0 where
    pub input : List ℕ
    pub read : Consumes before after input
    pub finishes : Finishes listened input after
    pub wants : listened ≡ Err faults.Memory → 0 < length input
    pub ends : EndsAt opening listened (commands (lines_at listened input))
        (quit_of (lines_at listened input)) was now
    pub whole : HaveEnded input ends.answered ⊎ IsAtEnd after

-- ---- the Stop

-- after lines that went so the Stop was made, and it ends so
pub record Stops (opening : Opening) (listened end : Result (Unit {0}) OperatorFault)
    (was now : Seated) (old new : Option (List ℕ)) : Type 0 where
  pub stop : Outcome
  pub came : StopComesTo opening was stop now
  pub ends : StopEnds listened end stop old new
