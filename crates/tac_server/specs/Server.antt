-- A server: its key, what its desk represents, the connections that are open, and the batch of
-- its console.
use Rattle.std.specs.Prelude.{ℕ, ◌==◌, List, [], Option, Some, None, if◌then◌else◌}
use Rattle.pol_edit.specs.declared.edit.Edit.{Edit}
use Rattle.tac_desk.specs.Meaning.{Meaning}
use Rattle.tac_desk.specs.Serving.{Said}
use Rattle.tac_console.specs.Batching.{batch_after}
use Rattle.tac_console.specs.ConsoleText.{asked_by}

-- the connections that are open: by number, all bytes that came on each
abbrev pub Connections : Type 0
Connections = ℕ → Option (List ℕ)

abbrev pub no_connections : Connections
no_connections number = None

abbrev pub with_connection : ℕ → Option (List ℕ) → Connections → Connections
with_connection number bytes connections =
    λ other. if other == number then bytes else connections other

-- the batch is the edits kept since `begin`, or nothing where none is open
pub record State : Type 0 where
  pub key : List ℕ
  pub meaning : Meaning
  pub connections : Connections
  pub batch : Option (List Edit)

-- a server of this desk, before anyone has connected
abbrev pub opening : List ℕ → Meaning → State
opening key meaning = record {
  key = key;
  meaning = meaning;
  connections = no_connections;
  batch = None;
}

-- a connection of this number is opened
abbrev pub opened : ℕ → State → State
opened number state =
    record state { connections = with_connection number (Some []) state.connections }

-- the connection of this number is lost, if there is one
abbrev pub lost : ℕ → State → State
lost number state = record state { connections = with_connection number None state.connections }

-- this was said on a connection, to all of these bytes: what is left of them is dropped where it
-- closes
abbrev pub heard : ℕ → List ℕ → Said → State → State
heard number bytes said state = record state {
  meaning = said.meaning;
  connections = with_connection number (if said.closes then None else Some bytes) state.connections;
}

-- the desk represents this from now on
abbrev pub with_meaning : Meaning → State → State
with_meaning meaning state = record state { meaning = meaning }

-- a line was typed at the console, and the desk represents this from now on
abbrev pub typed : List ℕ → Meaning → State → State
typed line meaning state = record state {
  meaning = meaning;
  batch = batch_after state.batch (asked_by line);
}

-- the batch is dropped, if one is open
abbrev pub abandoned : State → State
abandoned state = record state { batch = None }
