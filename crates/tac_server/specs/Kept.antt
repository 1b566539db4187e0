-- What the code keeps of a server, and what it represents.
use Rattle.std.specs.Prelude.{◌≡◌, ℕ, List, [], ◌∷◌, ◌++◌, Bool, true, false}
use Rattle.std.specs.Prelude.{IsTrue, is_some, Option, Some, None, Result, Ok, Err}
use Rattle.std.specs.BTreeMap.{BTreeMap, get}
use Rattle.std.specs.Ordering.{nat_cmp}
use Rattle.tac_wire.specs.declared.door.Door.{Door}
use Rattle.tac_wire.specs.declared.door.Door.TheVariants.{Padded}
use Rattle.tac_wire.specs.Stream.{open_end, cut}
use Rattle.tac_conn.specs.declared.packet.Packet.{Packet}
use Rattle.tac_conn.specs.Packet.{sent, IsWhole}
use Rattle.tac_stream.specs.declared.stream.Stream.{Stream}
use Rattle.tac_stream.specs.Kept.{IsReady, Stands}
use Rattle.tac_desk.specs.Meaning.{Meaning}
use Rattle.tac_desk.specs.Serving.{Said, said_on, said_first, sent_bytes, whole_packets}
use Rattle.tac_console.specs.declared.batching.Action.{Action}
use Rattle.tac_server.specs.Server.{Connections, State, opened, lost, heard, with_meaning}
use Rattle.tac_server.specs.Server.{typed, abandoned}
use Rattle.tac_server.specs.Console.{AnswersAction, Answers, AcceptsAction, Accepts}
use Rattle.tac_server.specs.Events.{fault_in, Does}
use Rattle.tac_server.specs.declared.event.Event.{Event}
use Rattle.tac_server.specs.declared.script_fault.ScriptFault.TheVariants.{NoConnection}
use Rattle.tac_server.specs.declared.script_fault.ScriptFault.TheVariants.{AlreadyOpen}
use Rattle.tac_server.specs.declared.script_fault.Stop.{Stop}
use Rattle.tac_server.specs.declared.script_fault.Stop.TheVariants as stops
use Rattle.tac_server.specs.declared.server.Server.{Server}
use Rattle.tac_server.specs.declared.server.ServerFault.{ServerFault}
use Rattle.tac_server.specs.declared.server.ServerFault.TheVariants as faults

-- ---- what is sent

abbrev pub AreWhole : Door → List Packet → Type 0
AreWhole door [] = Unit {0}
AreWhole door (packet ∷ packets) = IsWhole (sent door packet) × AreWhole door packets

-- these packets were sent by the door, after what was sent before
abbrev pub Sends : Door → List ℕ → List ℕ → List Packet → Type 0
Sends door old new packets = (new ≡ old ++ sent_bytes door packets) × AreWhole door packets

-- ---- connections

-- what is kept represents an open connection on which these bytes came: all their whole packets
-- were taken
pub record Serves (door : Door) (stream : Stream) (bytes : List ℕ) : Type 0 where
  pub rest : List ℕ
  pub tail : (cut door bytes).tail ≡ open_end rest
  pub ready : IsReady stream
  pub stands : Stands door stream bytes (whole_packets door bytes)

abbrev pub Ties : Door → Option Stream → Option (List ℕ) → Type 0
Ties door None None = Unit {0}
Ties door None (Some bytes) = ⊥
Ties door (Some stream) None = ⊥
Ties door (Some stream) (Some bytes) = Serves door stream bytes

-- the map has what is known of each open connection
abbrev pub Has : Door → BTreeMap ℕ Stream → Connections → Type 0
Has door map connections = (number : ℕ) → Ties door (get nat_cmp map number) (connections number)

-- ---- a server

-- what the server's desk represents, by what desks represent
abbrev pub stands_for : {D : Type 0} → (D → Meaning) → Server D → Meaning
stands_for meaning server = meaning server.desk

-- the server has this key, its desk represents this, and these connections are open
pub record HasState {D : Type 0} (meaning : D → Meaning) (server : Server D) (state : State)
    : Type 0 where
  pub key : server.key ≡ state.key
  pub desk : stands_for meaning server ≡ state.meaning
  pub connections : Has (Padded server.key) server.connections state.connections
  pub batch : server.batch ≡ state.batch

-- a connection was opened at a number
abbrev pub IsOpened : {D : Type 0} → (D → Meaning) → Server D → ℕ → State
    → Result (Unit {0}) ServerFault → Type 0
IsOpened meaning server number state (Ok _) =
    (state.connections number ≡ None) × HasState meaning server (opened number state)
IsOpened meaning server number state (Err faults.NoConnection) = ⊥
IsOpened meaning server number state (Err faults.AlreadyOpen) =
    IsTrue (is_some (state.connections number)) × HasState meaning server state
IsOpened meaning server number state (Err (faults.Memory accepted)) =
    (accepted ≡ false) × (state.connections number ≡ None) × HasState meaning server state

-- this was said to more bytes, after which these bytes came: it was sent, and the server is the
-- one after it
pub record IsSaid {D : Type 0} (meaning : D → Meaning) (old new : List ℕ) (closes : Bool)
    (server : Server D) (number : ℕ) (bytes : List ℕ) (state : State) (said : Said) : Type 0 where
  pub closing : closes ≡ said.closes
  pub sends : Sends (Padded state.key) old new said.sent
  pub has : HasState meaning server (heard number bytes said state)

-- memory ran out while more bytes were heard: some of the packets that they complete, from the
-- first on, were said what is said to them, and the connection is lost
pub record IsCutShort {D : Type 0} (meaning : D → Meaning) (old new : List ℕ) (server : Server D)
    (number : ℕ) (before more : List ℕ) (state : State) : Type 0 where
  pub count : ℕ
  pub stays : (said_first (Padded state.key) state.meaning before more count).closes ≡ false
  pub sends : Sends (Padded state.key) old new
      (said_first (Padded state.key) state.meaning before more count).sent
  pub has : HasState meaning server (lost number
      (with_meaning (said_first (Padded state.key) state.meaning before more count).meaning state))

-- bytes were handed in at a number
abbrev pub IsHeard : {D : Type 0} → (D → Meaning) → List ℕ → List ℕ → Server D → ℕ → List ℕ → State
    → Result Bool ServerFault → Type 0
IsHeard meaning old new server number more state (Ok closes) =
    (before : List ℕ) × (state.connections number ≡ Some before)
    × IsSaid meaning old new closes server number (before ++ more) state
    (said_on (Padded state.key) state.meaning before more)
IsHeard meaning old new server number more state (Err faults.NoConnection) =
    (state.connections number ≡ None) × (new ≡ old) × HasState meaning server state
IsHeard meaning old new server number more state (Err faults.AlreadyOpen) = ⊥
IsHeard meaning old new server number more state (Err (faults.Memory accepted)) =
    (accepted ≡ false) × ((before : List ℕ) × (state.connections number ≡ Some before)
    × IsCutShort meaning old new server number before more state)

-- the same, but nothing is said of what stands after memory ran out
abbrev pub IsHeardUnlessMemory : {D : Type 0} → (D → Meaning) → List ℕ → List ℕ → Server D → ℕ
    → List ℕ → State → Result Bool ServerFault → Type 0
IsHeardUnlessMemory meaning old new server number more state (Ok closes) =
    IsHeard meaning old new server number more state (Ok closes)
IsHeardUnlessMemory meaning old new server number more state (Err faults.NoConnection) =
    IsHeard meaning old new server number more state (Err faults.NoConnection)
IsHeardUnlessMemory meaning old new server number more state (Err faults.AlreadyOpen) = ⊥
IsHeardUnlessMemory meaning old new server number more state (Err (faults.Memory accepted)) =
    Unit {0}

-- memory ran out at a line of the console: nothing was printed, and no batch is open; edits that
-- were accepted stand
abbrev pub IsUnprinted : {D : Type 0} → (D → Meaning) → Server D → List ℕ → State → Bool → Type 0
IsUnprinted meaning server line state true =
    (after : Meaning) × Accepts state.meaning state.batch line after
    × HasState meaning server (abandoned (typed line after state))
IsUnprinted meaning server line state false = HasState meaning server (abandoned state)

-- a line of the console was answered
abbrev pub IsAnswered : {D : Type 0} → (D → Meaning) → List ℕ → List ℕ → Server D → List ℕ → State
    → Result (Unit {0}) ServerFault → Type 0
IsAnswered meaning old new server line state (Ok _) =
    (text : List ℕ) × (after : Meaning) × Answers state.meaning state.batch line text after
    × (new ≡ old ++ text) × HasState meaning server (typed line after state)
IsAnswered meaning old new server line state (Err faults.NoConnection) = ⊥
IsAnswered meaning old new server line state (Err faults.AlreadyOpen) = ⊥
IsAnswered meaning old new server line state (Err (faults.Memory accepted)) =
    (new ≡ old) × IsUnprinted meaning server line state accepted

-- no other answer is right, and it leaves nothing else
abbrev pub IsOnlyAnswer : {D : Type 0} → (D → Meaning) → List ℕ → List ℕ → Server D → List ℕ
    → State → Type 0
IsOnlyAnswer meaning old new server line state =
    (other : List ℕ) (later : Meaning) → Answers state.meaning state.batch line other later
    → (new ≡ old ++ other) × (stands_for meaning server ≡ later)

-- ---- what is done for a line of the console

-- this text was added, and no other is right
pub record Adds (old new : List ℕ) (now : Meaning) (answers : List ℕ → Meaning → Type 0)
    : Type 0 where
  pub text : List ℕ
  pub is : answers text now
  pub only : (other : List ℕ) (later : Meaning) → answers other later
      → (other ≡ text) × (later ≡ now)
  pub added : new ≡ old ++ text

-- it was done and answered; where memory ran out nothing was printed, and edits stand where they
-- were accepted
abbrev pub ActionAnswered : Meaning → Meaning → Action → List ℕ → List ℕ
    → Result (Unit {0}) ServerFault → Type 0
ActionAnswered was now action old new (Ok _) = Adds old new now (AnswersAction was action)
ActionAnswered was now action old new (Err faults.NoConnection) = ⊥
ActionAnswered was now action old new (Err faults.AlreadyOpen) = ⊥
ActionAnswered was now action old new (Err (faults.Memory true)) =
    (new ≡ old) × AcceptsAction was action now
ActionAnswered was now action old new (Err (faults.Memory false)) = (new ≡ old) × (now ≡ was)

-- ---- events of a script

-- the event was done: what it prints was added, and the server is the one after it
pub record IsDone {D : Type 0} (meaning : D → Meaning) (old new : List ℕ) (server : Server D)
    (state : State) (event : Event) : Type 0 where
  pub text : List ℕ
  pub next : State
  pub free : fault_in state.connections event ≡ None
  pub does : Does state event text next
  pub only : (other : List ℕ) (later : State) → Does state event other later
      → (other ≡ text) × (later ≡ next)
  pub added : new ≡ old ++ text
  pub has : HasState meaning server next

-- the event of a line was done, or the fault that kept it from being done stopped the run
abbrev pub IsDoneUnless : {D : Type 0} → (D → Meaning) → ℕ → List ℕ → List ℕ → Server D → State
    → Event → Result (Unit {0}) Stop → Type 0
IsDoneUnless meaning line old new server state event (Ok _) =
    IsDone meaning old new server state event
IsDoneUnless meaning line old new server state event (Err stops.Memory) = Unit {0}
IsDoneUnless meaning line old new server state event (Err (stops.Fault at)) =
    (at.line ≡ Some line) × (fault_in state.connections event ≡ Some at.fault) × (new ≡ old)

-- what keeps the event of a line from being done
abbrev pub stop_of : ℕ → ServerFault → Stop
stop_of line faults.NoConnection = stops.Fault (record { line = Some line; fault = NoConnection })
stop_of line faults.AlreadyOpen = stops.Fault (record { line = Some line; fault = AlreadyOpen })
stop_of line (faults.Memory accepted) = stops.Memory
