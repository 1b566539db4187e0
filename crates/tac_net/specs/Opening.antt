-- What a server prints at first, and the seats that it makes.
use Rattle.std.specs.Prelude.{◌≡◌, ◌⊎◌, ℕ, List, [], ◌∷◌, ◌++◌, codes}
use Rattle.std.specs.Prelude.{Option, Some, None, Result, Ok, Err}
use Rattle.std.specs.Fmt.{decimal}
use Rattle.std.specs.Io.KnownBytes.{Appends}
use Rattle.tac_hall_console.specs.Operated.{WritesBeginning}
use Rattle.tac_net.specs.declared.settings.Settings.{Settings}
use Rattle.tac_net.specs.declared.fault.ServeFault.{ServeFault}
use Rattle.tac_net.specs.declared.fault.ServeFault.TheVariants.{WriteFault, Memory, Descriptors}

-- a line for a place that is listened at
abbrev pub listening_line : List ℕ → List ℕ
listening_line place = codes "listening " ++ place ++ 10 ∷ []

-- the number of a port, and the address where it isn't every one of the machine
abbrev pub port_line : Option ℕ → Option (List ℕ) → List ℕ
port_line None address = []
port_line (Some port) None = listening_line (decimal port)
port_line (Some port) (Some address) = listening_line (decimal port ++ codes " at " ++ address)

abbrev pub proxy_line : Option (List ℕ) → List ℕ
proxy_line None = []
proxy_line (Some path) = listening_line path

-- where a server listens: its port, and the path of its proxy's socket
unfoldable pub listening : Settings → List ℕ
listening settings = port_line settings.port settings.address ++ proxy_line settings.proxy

-- the first lines were written, or a beginning of them; or nothing, where memory ran out
abbrev pub Announces : Result (Unit {0}) ServeFault → List ℕ → Option (List ℕ)
    → Option (List ℕ) → Type 0
Announces (Ok _) lines old new = Appends old new lines
Announces (Err WriteFault) lines old new = WritesBeginning lines old new
Announces (Err Memory) lines old new = new ≡ old
Announces (Err fault) lines old new = ⊥

-- why workers have nothing to wait with
abbrev pub IsUnready : ServeFault → Type 0
IsUnready fault = (fault ≡ Memory) ⊎ (fault ≡ Descriptors)
