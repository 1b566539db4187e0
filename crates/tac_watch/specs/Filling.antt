-- How many records are counted, and when a server says that they fill up (docs/REFERENCE.md, "How
-- long it runs").
use Rattle.std.specs.Prelude.{ℕ, ◌+◌, ◌-◌, ◌/◌, ◌^◌, ◌==◌, min, Option, Some, None, Result, Ok}
use Rattle.std.specs.Prelude.{if◌then◌else◌}
use Rattle.std.specs.declared.alloc.AllocError.{AllocError}
use Rattle.tac_tally.specs.Keeping.{goes}
use Rattle.tac_tally.specs.declared.limit.AtLimit.{AtLimit}
use Rattle.tac_tally.specs.declared.limit.AtLimit.TheVariants.{Refuse, Forget}
use Rattle.tac_tally.specs.declared.limit.RecordLimit.{RecordLimit}
use Rattle.tac_conn.specs.declared.ask.Answer.{Answer}
use Rattle.tac_conn.specs.declared.ask.Answer.TheVariants.{Stored}
use Rattle.tac_watch.specs.declared.gauge.Gauge.{Gauge}
use Rattle.tac_watch.specs.declared.gauge.Fullness.{Fullness}
use Rattle.tac_watch.specs.declared.gauge.Fullness.TheVariants.{NearlyFull, Full}

-- no record was stored yet
abbrev pub empty : RecordLimit → Gauge
empty limit = record { limit = limit; kept = 0 }

-- one more record was stored: as many go before as the limit says; as far as 64 bits count
abbrev pub counted : Gauge → Gauge
counted gauge = record gauge {
  kept = min ((gauge.kept - goes gauge.limit gauge.kept) + 1) (2 ^ 64 - 1);
}

-- a desk counts the records that it answers to have stored
abbrev pub after : Result Answer AllocError → Gauge → Gauge
after (Ok Stored) gauge = counted gauge
after answered gauge = gauge

-- the least that is nine tenths of so many, or more
abbrev pub nine_tenths : ℕ → ℕ
nine_tenths most = most - most / 10

-- what is to say where so many of at most so many are stored: each at one number of them alone
abbrev pub fullness : ℕ → ℕ → Option Fullness
fullness stored most =
    if stored == most then Some Full
    else if stored == nine_tenths most then Some NearlyFull else None

-- there is something to say only where the limit refuses
abbrev pub said_at : AtLimit → ℕ → ℕ → Option Fullness
said_at Refuse stored most = fullness stored most
said_at Forget stored most = None

-- what is to say once the last record was stored
abbrev pub said : Gauge → Option Fullness
said gauge = said_at gauge.limit.at_limit gauge.kept gauge.limit.most
