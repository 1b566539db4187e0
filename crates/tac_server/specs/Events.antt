-- What the lines after `run` do.
use Rattle.std.specs.Prelude.{◌≡◌, ℕ, List, [], ◌∷◌, ◌++◌, take, drop, codes, Bool, true, false}
use Rattle.std.specs.Prelude.{is_some, Option, Some, None, if◌then◌else◌}
use Rattle.std.specs.List.{flat_map}
use Rattle.std.specs.Fmt.{decimal}
use Rattle.hex.specs.Hex.{encode_lower}
use Rattle.tac_wire.specs.declared.door.Door.TheVariants.{Padded}
use Rattle.tac_wire.specs.Header.{header_of}
use Rattle.tac_wire.specs.Pad.{padded}
use Rattle.tac_conn.specs.declared.packet.Packet.{Packet}
use Rattle.tac_conn.specs.Packet.{sent}
use Rattle.tac_desk.specs.Serving.{Said}
use Rattle.tac_server.specs.Server.{Connections, State}
use Rattle.tac_server.specs.Happening.{Happening, Opens, Brings, Loses, Types, Gives}
use Rattle.tac_server.specs.Happening.{Given, Nothing, Packets, Text}
use Rattle.tac_server.specs.declared.event.Event.{Event}
use Rattle.tac_server.specs.declared.event.Event.TheVariants.{Open, Hand, Pieces, Lost, Console}
use Rattle.tac_server.specs.declared.script_fault.ScriptFault.{ScriptFault}
use Rattle.tac_server.specs.declared.script_fault.ScriptFault.TheVariants.{NoConnection}
use Rattle.tac_server.specs.declared.script_fault.ScriptFault.TheVariants.{AlreadyOpen}

-- what keeps an event from being done
abbrev pub fault_in : Connections → Event → Option ScriptFault
fault_in connections (Open number) = if is_some (connections number) then Some AlreadyOpen else None
fault_in connections (Hand number bytes) =
    if is_some (connections number) then None else Some NoConnection
fault_in connections (Pieces size) = None
fault_in connections (Lost number) = None
fault_in connections (Console line) = None

-- a packet as it was sent, with the pad taken off its body
abbrev pub unpadded : List ℕ → List ℕ → List ℕ
unpadded key bytes = take 12 bytes ++ padded (header_of (take 12 bytes)) key (drop 12 bytes)

-- `reply N HEX`, of a packet that was sent
abbrev pub reply_line : List ℕ → ℕ → List ℕ → List ℕ
reply_line key number bytes =
    codes "reply " ++ decimal number ++ 32 ∷ encode_lower (unpadded key bytes) ++ 10 ∷ []

-- `closed N`
abbrev pub closed_line : ℕ → Bool → List ℕ
closed_line number false = []
closed_line number true = codes "closed " ++ decimal number ++ 10 ∷ []

-- a line for each packet
abbrev pub reply_lines : List ℕ → ℕ → List Packet → List ℕ
reply_lines key number packets =
    flat_map (λ packet. reply_line key number (sent (Padded key) packet)) packets

abbrev pub shown : List ℕ → ℕ → Said → List ℕ
shown key number said = reply_lines key number said.sent ++ closed_line number said.closes

-- what is printed of what the server gives out
abbrev pub printed : List ℕ → Given → List ℕ
printed key Nothing = []
printed key (Packets number said) = shown key number said
printed key (Text text) = text

-- what happens at the server, and what is printed of it
pub record Happens (state : State) (happening : Happening) (text : List ℕ) (after : State)
    : Type 0 where
  pub given : Given
  pub gives : Gives state happening given after
  pub prints : text ≡ printed state.key given

-- what an event of a script makes happen; in which pieces bytes are handed in changes nothing
abbrev pub happening_of : Event → Option Happening
happening_of (Open number) = Some (Opens number)
happening_of (Hand number bytes) = Some (Brings number bytes)
happening_of (Pieces size) = None
happening_of (Lost number) = Some (Loses number)
happening_of (Console line) = Some (Types line)

abbrev pub DoesIf : State → Option Happening → List ℕ → State → Type 0
DoesIf state None text after = (text ≡ []) × (after ≡ state)
DoesIf state (Some happening) text after = Happens state happening text after

-- an event that nothing keeps from being done prints this, and leaves this
abbrev pub Does : State → Event → List ℕ → State → Type 0
Does state event text after = DoesIf state (happening_of event) text after
