-- What is told of a desk to who watches it.
use Rattle.std.specs.Prelude.{◌≡◌, ℕ, List, Result, Ok}
use Rattle.std.specs.declared.alloc.AllocError.{AllocError}
use Rattle.pol_text.specs.declared.subject.Subject.{Subject}
use Rattle.tac_conn.specs.declared.ask.Answer.{Answer}
use Rattle.tac_conn.specs.declared.ask.Answer.TheVariants.{Stored}
use Rattle.tac_watch.specs.declared.gauge.Gauge.{Gauge}

-- a record was stored; a policy was made by so many edits, or loaded; a question is asked of one
pub data Seen : Type 0 where
  stored : Gauge → Seen
  edited : List Subject → ℕ → Seen
  loaded : List Subject → Seen
  questioned : List Subject → Seen

-- of an ask a record is told that is answered as stored, and nothing else
abbrev pub SeesAsk : {W : Type 0} → (W → Seen → W → Type 0) → Result Answer AllocError → Gauge → W
    → W → Type 0
SeesAsk sees (Ok Stored) gauge was now = sees was (stored gauge) now
SeesAsk sees answered gauge was now = now ≡ was
