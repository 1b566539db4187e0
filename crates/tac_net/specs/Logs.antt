-- What an auditor's log took of a connection (docs/AUDIT.md).
use Rattle.std.specs.Prelude.{◌≡◌, ◌⊎◌, ℕ, List, false, Option, Some, None, All}
use Rattle.tac_audit.specs.declared.event.Named.{Named}
use Rattle.tac_audit.specs.declared.event.Origin.{Origin}
use Rattle.tac_audit.specs.declared.notice.Notice.{Notice}
use Rattle.tac_audit.specs.Noted.{noted_of_each}
use Rattle.tac_journal.specs.Lines.{AreLines}
use Rattle.tac_journal.specs.Log.{Keeping}

-- these are the lines of the notices of a connection of some origin, in their order, each at some
-- time. Where there is no list of them, no notice is refused
abbrev pub Logs : Option (List (List ℕ)) → List Notice → Option Notice → Type 0
Logs None told refused = refused ≡ None
Logs (Some lines) told refused = (origin : Origin) × AreLines origin (noted_of_each told) lines

-- the log, if one is kept, took the lines of these notices of a connection of an origin that is
-- named so, in their order, each at some time
abbrev pub HasLogged : Keeping → Option Named → List Notice → Type 0
HasLogged log who told =
    (log.is_kept ≡ false)
    ⊎ ((origin : Origin) × (origin.named ≡ who) × (lines : List (List ℕ))
    × AreLines origin (noted_of_each told) lines × All log.took lines)
