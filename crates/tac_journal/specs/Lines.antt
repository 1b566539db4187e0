-- The lines that are written of what is noted of a connection.
use Rattle.std.specs.Prelude.{◌≡◌, ℕ, List, [], ◌∷◌, Option, Some, None}
use Rattle.std.specs.Global.{Vec}
use Rattle.tac_audit.specs.declared.event.Origin.{Origin}
use Rattle.tac_audit.specs.Told.{Noted}
use Rattle.tac_audit.specs.Noted.{event_of}
use Rattle.tac_audit.specs.Event.{line_of}

-- its line, at some time
abbrev pub IsLine : Origin → Noted → List ℕ → Type 0
IsLine origin noted line =
    (time : List ℕ) × (line ≡ line_of (event_of (Some time) origin noted))

-- the line of what is noted was made for this time; where nothing is noted, there is none
abbrev pub IsLineAt : List ℕ → Origin → Option Noted → Option (Vec ℕ) → Type 0
IsLineAt time origin None None = Unit {0}
IsLineAt time origin (Some noted) (Some line) =
    line.items ≡ line_of (event_of (Some time) origin noted)
IsLineAt time origin noted line = ⊥

-- these are the lines of all that, in its order
abbrev pub AreLines : Origin → List Noted → List (List ℕ) → Type 0
AreLines origin [] [] = Unit {0}
AreLines origin (one ∷ more) (line ∷ lines) = IsLine origin one line × AreLines origin more lines
AreLines origin noted lines = ⊥
