-- What is noted of the calls of a connection, whoever else its caller calls for.
use Rattle.std.specs.Prelude.{◌≡◌, List, [], ◌∷◌, ◌++◌}
use Rattle.tac_conn.specs.declared.ask.Answer.{Answer}
use Rattle.tac_conn.specs.declared.ask.Ask.{Ask}
use Rattle.tac_hall.specs.declared.fault.HallFault.{HallFault}
use Rattle.tac_worker.specs.Worked.{Exchange}

-- an ask that was called, and its answer
abbrev pub answered : Exchange → Ask × Answer
answered exchange = (exchange.ask, exchange.answer)

-- ---- the notes alone

-- this exchange was noted, and nothing else
abbrev pub IsNoted : List (Ask × Answer) → Exchange → List (Ask × Answer) → Type 0
IsNoted was exchange now = now ≡ was ++ answered exchange ∷ []

-- nothing was noted
abbrev pub NoneIsNoted : List (Ask × Answer) → List (Ask × Answer) → Type 0
NoneIsNoted was now = now ≡ was

-- ---- with a caller

-- a caller, and what is noted of its calls for one connection
pub record Noting (S : Type 0) : Type 0 where
  pub caller : S
  pub called : List (Ask × Answer)

module _ {S : Type 0} where
  abbrev pub noting : S → List (Ask × Answer) → Noting S
  noting caller called = record { caller = caller; called = called }

  -- the caller made this exchange, and it was noted
  abbrev pub NotesOne : (S → Exchange → S → Type 0) → Noting S → Exchange → Noting S → Type 0
  NotesOne makes was exchange now =
      makes was.caller exchange now.caller × IsNoted was.called exchange now.called

  -- the caller made none, and nothing was noted
  abbrev pub NotesNone : (S → S → Type 0) → Noting S → Noting S → Type 0
  NotesNone rests was now = rests was.caller now.caller × NoneIsNoted was.called now.called

  -- the caller is refused a call of this ask so
  abbrev pub RefusesNoted : (S → Ask → HallFault → Type 0) → Noting S → Ask → HallFault → Type 0
  RefusesNoted refuses now ask fault = refuses now.caller ask fault
