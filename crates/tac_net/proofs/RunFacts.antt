-- A server's course, put together from its parts.
use Rattle.std.proofs.Common.{◌≡◌, ℕ, List, ◌∷◌, length, All, Option, Result, Err, refl}
use mathlib.Core.Logic.{inl, inr}
use Rattle.tac_hall.specs.Room.{Opening}
use Rattle.tac_hall.specs.Seat.{Seated, IsFresh}
use Rattle.tac_hall_console.specs.declared.fault.OperatorFault.{OperatorFault}
use Rattle.tac_journal.specs.Log.{Keeping}
use Rattle.tac_net.specs.Ending.{Closes}
use Rattle.tac_net.specs.Opening.{listening}
use Rattle.tac_net.specs.Program.{HasAttended, Ends, Runs, end_by}
use Rattle.tac_net.specs.Connections.{HasServed, HaveAllServed}
use Rattle.tac_net.specs.declared.settings.Settings.{Settings}
use Rattle.tac_net.specs.declared.fault.ServeFault.{ServeFault}
use Rattle.tac_net.specs.declared.fault.ServeFault.TheVariants.{Memory}

-- the console was operated, and the desk's end is told
ended : (settings : Settings) (log : Keeping) (opening : Opening) (seat console : Seated) (operated : Result (Unit {0}) OperatorFault) (before after old told new : Option (List ℕ)) (closed : Result (Unit {0}) ServeFault)
    → HasAttended (console, operated) (listening settings) opening seat before after old told → IsFresh seat → Ends closed settings log opening console told new
    → Runs (end_by operated closed) settings log opening before after old new
ended settings log opening seat console operated before after old told new closed attended fresh ends =
    inr (record {
      seat = seat;
      fresh = fresh;
      console = (console, operated);
      told = told;
      attended = attended;
      closed = closed;
      ends = ends;
      is = refl;
    })

-- workers served too, and the desk was closed or not
pub ran : (settings : Settings) (log : Keeping) (opening : Opening) (seats : List Seated) (seat console : Seated) (operated : Result (Unit {0}) OperatorFault) (before after old told new : Option (List ℕ)) (served : List Seated) (closed : Result (Unit {0}) ServeFault)
    → HasAttended (console, operated) (listening settings) opening seat before after old told → IsFresh seat → length seats ≡ settings.workers → All IsFresh seats
    → HaveAllServed (HasServed opening settings.callers log settings.connections) seats served → Closes closed opening (console ∷ served) told new
    → Runs (end_by operated closed) settings log opening before after old new
ran settings log opening seats seat console operated before after old told new served closed attended fresh count all_fresh have closes =
    ended settings log opening seat console operated before after old told new closed attended fresh (inl (served, record { seats = seats; count = count; fresh = all_fresh; have = have }, closes))

-- memory ran out for the list of those who served
pub ran_out : (settings : Settings) (log : Keeping) (opening : Opening) (seat console : Seated) (operated : Result (Unit {0}) OperatorFault) (before after old told : Option (List ℕ))
    → HasAttended (console, operated) (listening settings) opening seat before after old told → IsFresh seat → Runs (end_by operated (Err Memory)) settings log opening before after old told
ran_out settings log opening seat console operated before after old told attended fresh =
    ended settings log opening seat console operated before after old told told (Err Memory) attended fresh (inr (refl, refl))
