-- A server with a console, from its first line to the closing of its desk.
use Rattle.std.specs.Prelude.{◌≡◌, ◌⊎◌, ℕ, List, ◌∷◌, length, All, Option, Result, Ok, Err}
use Rattle.std.specs.Io.KnownBytes.{Appends}
use Rattle.tac_hall.specs.Room.{Opening}
use Rattle.tac_hall.specs.Seat.{Seated, IsFresh}
use Rattle.tac_hall_console.specs.Operated.{IsOperated}
use Rattle.tac_hall_console.specs.declared.fault.OperatorFault.{OperatorFault}
use Rattle.tac_hall_console.specs.declared.fault.OperatorFault.TheVariants as operator
use Rattle.tac_journal.specs.Log.{Keeping}
use Rattle.tac_net.specs.Opening.{listening, Announces}
use Rattle.tac_net.specs.Ending.{Refuses, Closes}
use Rattle.tac_net.specs.Connections.{HasServed, HaveAllServed}
use Rattle.tac_net.specs.declared.settings.Settings.{Settings}
use Rattle.tac_net.specs.declared.fault.ServeFault.{ServeFault}
use Rattle.tac_net.specs.declared.fault.ServeFault.TheVariants.{ReadFault, WriteFault, Memory}
use Rattle.tac_net.specs.declared.fault.ServeFault.TheVariants.{Threads, Descriptors}

-- what the end of the console ends the server as
abbrev pub fault_by : OperatorFault → ServeFault
fault_by operator.ReadFault = ReadFault
fault_by operator.WriteFault = WriteFault
fault_by operator.Memory = Memory

-- of the faults of the console and of the closing the console's comes first
abbrev pub end_by : Result (Unit {0}) OperatorFault → Result (Unit {0}) ServeFault
    → Result (Unit {0}) ServeFault
end_by (Err fault) closed = Err (fault_by fault)
end_by (Ok _) closed = closed

-- before its console could begin: `close refused` was printed where it has no seats, nothing where
-- it has no threads, no file descriptors or no memory; a beginning of that or of the first lines
-- where a write failed
abbrev pub Fails : Result (Unit {0}) ServeFault → List ℕ → Option (List ℕ) → Option (List ℕ)
    → Type 0
Fails (Ok _) lines old new = ⊥
Fails (Err Threads) lines old new = new ≡ old
Fails (Err Descriptors) lines old new = new ≡ old
Fails (Err fault) lines old new = Refuses fault old new ⊎ Announces (Err fault) lines old new

-- these first lines were printed, and then the console was operated by this seat. Which log was
-- told of its lines is not said: an operator is answered whether it takes them or not
pub record HasAttended (ended : Seated × Result (Unit {0}) OperatorFault) (lines : List ℕ)
    (opening : Opening) (was : Seated) (before after old new : Option (List ℕ)) : Type 0 where
  pub announced : Option (List ℕ)
  pub announces : Appends old announced lines
  pub operates : IsOperated opening ended.1 (λ typings. Unit {0}) was ended.0
      before after announced new

-- the console's part: that, or nothing was read
abbrev pub Attends : Result (Seated × Result (Unit {0}) OperatorFault) ServeFault → List ℕ → Opening
    → Seated → Option (List ℕ) → Option (List ℕ) → Option (List ℕ) → Option (List ℕ) → Type 0
Attends (Ok ended) lines opening was before after old new =
    HasAttended ended lines opening was before after old new
Attends (Err fault) lines opening was before after old new =
    (after ≡ before) × Fails (Err fault) lines old new

-- so many workers, who had done nothing, served at most so many connections each
pub record HaveWorked (settings : Settings) (log : Keeping) (opening : Opening)
    (served : List Seated) : Type 0 where
  pub seats : List Seated
  pub count : length seats ≡ settings.workers
  pub fresh : All IsFresh seats
  pub have :
      HaveAllServed (HasServed opening settings.callers log settings.connections) seats served

-- workers served, and the desk was closed with the console's seat and theirs; or memory ran out
abbrev pub Ends : Result (Unit {0}) ServeFault → Settings → Keeping → Opening → Seated
    → Option (List ℕ) → Option (List ℕ) → Type 0
Ends closed settings log opening console old new =
    ((served : List Seated) × HaveWorked settings log opening served
    × Closes closed opening (console ∷ served) old new)
    ⊎ ((closed ≡ Err Memory) × (new ≡ old))

-- `listening P`, `listening PATH` or both were printed, then the console was operated by a seat that had done nothing, while
-- workers served, and then the desk was closed
pub record HasRun (end : Result (Unit {0}) ServeFault) (settings : Settings) (log : Keeping)
    (opening : Opening) (before after old new : Option (List ℕ)) : Type 0 where
  pub seat : Seated
  pub fresh : IsFresh seat
  pub console : Seated × Result (Unit {0}) OperatorFault
  pub told : Option (List ℕ)
  pub attended : HasAttended console (listening settings) opening seat before after old told
  pub closed : Result (Unit {0}) ServeFault
  pub ends : Ends closed settings log opening console.0 told new
  pub is : end ≡ end_by console.1 closed

-- the log is the auditor's
abbrev pub Runs : Result (Unit {0}) ServeFault → Settings → Keeping → Opening → Option (List ℕ)
    → Option (List ℕ) → Option (List ℕ) → Option (List ℕ) → Type 0
Runs end settings log opening before after old new =
    ((after ≡ before) × Fails end (listening settings) old new)
    ⊎ HasRun end settings log opening before after old new
