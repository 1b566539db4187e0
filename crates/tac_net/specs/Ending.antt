-- How a server leaves its desk.
use Rattle.std.specs.Prelude.{◌≡◌, ℕ, List, [], ◌∷◌, ◌++◌, codes, Option}
use Rattle.std.specs.Prelude.{Result, Ok, Err}
use Rattle.std.specs.Io.KnownBytes.{Appends}
use Rattle.tac_desk.specs.Meaning.{Meaning}
use Rattle.tac_hall.specs.Room.{Opening}
use Rattle.tac_hall.specs.Seat.{Seated}
use Rattle.tac_hall.specs.Closing.{IsSettled}
use Rattle.tac_hall_console.specs.Operated.{WritesBeginning}
use Rattle.tac_net.specs.declared.fault.ServeFault.{ServeFault}
use Rattle.tac_net.specs.declared.fault.ServeFault.TheVariants.{WriteFault, Memory, CloseRefused}

abbrev pub refused_line : List ℕ
refused_line = codes "close refused" ++ 10 ∷ []

-- it was printed that the desk can't be closed, or a beginning of that
abbrev pub Refuses : ServeFault → Option (List ℕ) → Option (List ℕ) → Type 0
Refuses CloseRefused old new = Appends old new refused_line
Refuses WriteFault old new = WritesBeginning refused_line old new
Refuses fault old new = ⊥

-- the desk was closed with these seats, and nothing printed; or it couldn't be, or memory ran out
abbrev pub Closes : Result (Unit {0}) ServeFault → Opening → List Seated → Option (List ℕ)
    → Option (List ℕ) → Type 0
Closes (Ok _) opening seats old new =
    ((last : Meaning) × IsSettled opening last seats) × (new ≡ old)
Closes (Err Memory) opening seats old new = new ≡ old
Closes (Err fault) opening seats old new = Refuses fault old new
