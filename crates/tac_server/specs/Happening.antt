-- What happens at a server, and what it gives out then.
use Rattle.std.specs.Prelude.{◌≡◌, ℕ, List, [], ◌++◌, Some, None}
use Rattle.tac_wire.specs.declared.door.Door.TheVariants.{Padded}
use Rattle.tac_desk.specs.Meaning.{Meaning}
use Rattle.tac_desk.specs.Serving.{Said, said_on, sent_bytes}
use Rattle.tac_server.specs.Server.{State, opened, lost, heard, typed}
use Rattle.tac_server.specs.Console.{Answers}

-- what may happen: a connection of a number is opened, bytes come on it, it is lost, and a line
-- is typed at the console
pub data Happening : Type 0 where
  Opens : ℕ → Happening
  Brings : ℕ → List ℕ → Happening
  Loses : ℕ → Happening
  Types : List ℕ → Happening

-- what is given out: nothing, what is said on the connection of a number, or the console's answer
pub data Given : Type 0 where
  Nothing : Given
  Packets : ℕ → Said → Given
  Text : List ℕ → Given

-- the bytes of it, under the key
abbrev pub bytes_given : List ℕ → Given → List ℕ
bytes_given key Nothing = []
bytes_given key (Packets number said) = sent_bytes (Padded key) said.sent
bytes_given key (Text text) = text

-- bytes come on an open connection
pub record Hears (state : State) (number : ℕ) (bytes : List ℕ) (given : Given) (after : State)
    : Type 0 where
  pub before : List ℕ
  pub is_open : state.connections number ≡ Some before
  pub says : given ≡ Packets number (said_on (Padded state.key) state.meaning before bytes)
  pub leaves : after
      ≡ heard number (before ++ bytes) (said_on (Padded state.key) state.meaning before bytes) state

-- a line is typed at the console
pub record Tells (state : State) (line : List ℕ) (given : Given) (after : State) : Type 0 where
  pub text : List ℕ
  pub meaning : Meaning
  pub answers : Answers state.meaning state.batch line text meaning
  pub says : given ≡ Text text
  pub leaves : after ≡ typed line meaning state

-- what the server gives out, and the state that is left; a number is opened only where it isn't
-- open, and brings bytes only where it is
abbrev pub Gives : State → Happening → Given → State → Type 0
Gives state (Opens number) given after =
    (state.connections number ≡ None) × (given ≡ Nothing) × (after ≡ opened number state)
Gives state (Brings number bytes) given after = Hears state number bytes given after
Gives state (Loses number) given after = (given ≡ Nothing) × (after ≡ lost number state)
Gives state (Types line) given after = Tells state line given after
