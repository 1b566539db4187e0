-- What the log of a connection is once a notice was told, or was refused.
use Rattle.std.specs.Prelude.{◌≡◌, ◌⊎◌, ℕ, List, Option, Some, None, Result, Ok, Err}
use Rattle.tac_audit.specs.declared.event.Origin.{Origin}
use Rattle.tac_audit.specs.declared.notice.Notice.{Notice}
use Rattle.tac_audit.specs.declared.witness.Refused.{Refused}
use Rattle.tac_audit.specs.Told.{Noted}
use Rattle.tac_audit.specs.Noted.{noted_of}
use Rattle.tac_audit.specs.Witness.{AreTold}
use Rattle.tac_journal.specs.Lines.{IsLine, AreLines}

-- ---- a log, which takes lines so

-- it took the line of what is noted of this origin; where nothing is noted, it is as it was
abbrev pub HasLine : {S : Type 0} → (S → List ℕ → S → Type 0) → Origin → Option Noted → S → S
    → Type 0
HasLine takes origin None old new = new ≡ old
HasLine takes origin (Some noted) old new =
    (line : List ℕ) × IsLine origin noted line × takes old line new

-- it refused that line, or the line never came to it
abbrev pub LacksLine : {S : Type 0} → (S → List ℕ → S → Type 0) → Origin → Option Noted → S → S
    → Type 0
LacksLine refuses origin None old new = new ≡ old
LacksLine refuses origin (Some noted) old new =
    (new ≡ old) ⊎ ((line : List ℕ) × IsLine origin noted line × refuses old line new)

-- it took the lines of all that, one after another, and no others
abbrev pub HasLines : {S : Type 0} → (S → List ℕ → S → Type 0) → Origin → List Noted → S → S
    → Type 0
HasLines takes origin noted old new =
    (lines : List (List ℕ)) × AreLines origin noted lines × AreTold takes old lines new

-- .. and then it refused the line of one more, or that never came to it
abbrev pub HasLinesButLast : {S : Type 0} → (S → List ℕ → S → Type 0)
    → (S → List ℕ → S → Type 0) → Origin → List Noted → Option Noted → S → S → Type 0
HasLinesButLast {S} takes refuses origin noted last old new =
    (between : S) × HasLines takes origin noted old between
    × LacksLine refuses origin last between new

-- the line was taken; or it was refused, or never came to the log
abbrev pub IsNoted : {S : Type 0} → (S → List ℕ → S → Type 0) → (S → List ℕ → S → Type 0)
    → Result (Unit {0}) Refused → Origin → Option Noted → S → S → Type 0
IsNoted takes refuses (Ok done) origin noted old new = HasLine takes origin noted old new
IsNoted takes refuses (Err refused) origin noted old new = LacksLine refuses origin noted old new

-- ---- a notice

-- where its lines come from, and the log
pub record Place (S : Type 0) : Type 0 where
  pub origin : Origin
  pub log : S

-- the log took the line of what is noted of it
pub record Takes {S : Type 0} (takes : S → List ℕ → S → Type 0) (was : Place S) (notice : Notice)
    (now : Place S) : Type 0 where
  pub origin : now.origin ≡ was.origin
  pub line : HasLine takes was.origin (noted_of notice) was.log now.log

-- it refused that line, or the line never came to it
abbrev pub Refuses : {S : Type 0} → (S → List ℕ → S → Type 0) → Place S → Notice → Place S
    → Type 0
Refuses refuses was notice now = LacksLine refuses was.origin (noted_of notice) was.log now.log
