-- What a desk represents. How it keeps that (marks, counts, automata, what it
-- remembers) shows in no answer.
use Rattle.std.specs.Prelude.{ℕ, List, []}
use Rattle.pol_text.specs.declared.subject.Subject.{Subject}
use Rattle.tac_request.specs.declared.record.Record.{Record}
use Rattle.tac_tally.specs.Keeping.{refusing}
use Rattle.tac_tally.specs.declared.limit.RecordLimit.{RecordLimit}

-- the present policy, the accepted accounting records that are kept, in the order in which they
-- came, their limit, and how many were forgotten
pub record Meaning : Type 0 where
  pub policy : List Subject
  pub records : List Record
  pub limit : RecordLimit
  pub forgotten : ℕ

-- how many records the desk of a server accepts unless it is told otherwise, and that of a script
abbrev pub max_records : ℕ
max_records = 1000000

-- a desk before anything was asked of it
abbrev pub opened : List Subject → RecordLimit → Meaning
opened policy limit = record { policy = policy; records = []; limit = limit; forgotten = 0 }

-- one that accepts so many records, and no further one
abbrev pub opening : List Subject → ℕ → Meaning
opening policy most = opened policy (refusing most)

-- a desk whose policy was edited
abbrev pub with_policy : List Subject → Meaning → Meaning
with_policy policy meaning = record meaning { policy = policy }
