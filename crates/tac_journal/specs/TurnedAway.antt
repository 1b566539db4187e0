-- What a log is once connections were refused.
use Rattle.std.specs.Prelude.{ℕ, List, Result}
use Rattle.tac_audit.specs.declared.event.Origin.{Origin}
use Rattle.tac_audit.specs.declared.event.WhyTurnedAway.{WhyTurnedAway}
use Rattle.tac_audit.specs.declared.witness.Refused.{Refused}
use Rattle.tac_audit.specs.Event.{turned_away_line}
use Rattle.tac_journal.specs.Logged.{IsLogged}

-- the line that is written of them at this time
abbrev pub line_turned_away : List ℕ → Origin → WhyTurnedAway → ℕ → List ℕ
line_turned_away time origin why count =
    turned_away_line (record { time = time; origin = origin; why = why; count = count })

-- the log took that, at some time; or it refused that, or it never came to it
abbrev pub IsTurnedAway : {S : Type 0} → (S → List ℕ → S → Type 0) → (S → List ℕ → S → Type 0)
    → Result (Unit {0}) Refused → Origin → WhyTurnedAway → ℕ → S → S → Type 0
IsTurnedAway takes refuses result origin why count old new =
    (time : List ℕ)
    × IsLogged takes refuses result (line_turned_away time origin why count) old new
