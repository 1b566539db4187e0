-- What a line of a devices' file says (docs/DEVICES.md).
use Rattle.std.specs.Prelude.{◌≡◌, ℕ, ◌&&◌, not, nat_eq, nat_le, is_some, Bool, true, false, List}
use Rattle.std.specs.Prelude.{[], ◌∷◌, codes, Option, Some, None, if◌then◌else◌}
use Rattle.std.specs.Option.{option_and_then}
use Rattle.std.specs.Str.{bytes_eq}
use Rattle.basics.specs.Symbol.{is_text}
use Rattle.basics.specs.Lines.{split_at_first, without_leading_spaces}
use Rattle.basics.specs.Number.{number_of}
use Rattle.pol_names.specs.Name.{name_of}
use Rattle.tac_wire.specs.Key.{key_of}
use Rattle.tac_devices.specs.Prefix.{Range, Reads}
use Rattle.tac_devices.specs.Tls.{tls_of}
use Rattle.tac_devices.specs.declared.said.Said.{Said}
use Rattle.tac_devices.specs.declared.said.Said.TheVariants.{Nothing, Bad, Device, At, Key}
use Rattle.tac_devices.specs.declared.said.Said.TheVariants.{OldKey, Tls, Connections}
use Rattle.tac_devices.specs.declared.device.Tls.TheVariants.{Any}

-- the text is one field: it has no space
abbrev pub is_field : List ℕ → Bool
is_field text = not (is_some (split_at_first 32 text))

abbrev pub max_connections : ℕ
max_connections = 10000

-- how many connections a text allows: 1 to 10,000, in 1 to 5 digits
abbrev pub connections_of : List ℕ → Option ℕ
connections_of text =
    option_and_then (λ n. if nat_le 1 n && nat_le n max_connections then Some n else None)
    (number_of 5 text)

-- what a line says that begins with another word than `at`
unfoldable pub said_by : List ℕ → List ℕ → Said
said_by word rest =
    if bytes_eq word (codes "device") then (if is_field rest then Device (name_of rest) else Bad)
    else if bytes_eq word (codes "key") then Key (key_of rest)
    else if bytes_eq word (codes "old-key") then OldKey (key_of rest)
    else if bytes_eq word (codes "tls") then Tls (tls_of rest)
    else if bytes_eq word (codes "connections")
    then (if is_field rest then Connections (connections_of rest) else Bad)
    else Bad

-- the one fact where the test holds, the other where it doesn't
abbrev pub Where : Bool → Type 0 → Type 0 → Type 0
Where true one other = one
Where false one other = other

-- what a line says by its first word and what follows it and a space
abbrev pub SaysWords : List ℕ → List ℕ → Said → Type 0
SaysWords word rest said =
    Where (bytes_eq word (codes "at") && is_field rest)
    ((prefix : Option Range) × Reads rest prefix × (said ≡ At prefix))
    (said ≡ said_by word rest)

-- what a line says that is one word
abbrev pub said_alone : List ℕ → Said
said_alone word = if bytes_eq word (codes "tls") then Tls (Some Any) else Bad

abbrev pub SaysParts : List ℕ → Option (List ℕ × List ℕ) → Said → Type 0
SaysParts line None said = said ≡ said_alone line
SaysParts line (Some parts) said = SaysWords parts.0 parts.1 said

-- an empty line, or one that begins with `#`
abbrev pub is_blank : List ℕ → Bool
is_blank [] = true
is_blank (byte ∷ bytes) = nat_eq byte 35

abbrev pub SaysTrimmed : List ℕ → Said → Type 0
SaysTrimmed line said =
    Where (is_blank line) (said ≡ Nothing) (SaysParts line (split_at_first 32 line) said)

-- a line has symbols alone, and its leading spaces are dropped
abbrev pub Says : List ℕ → Said → Type 0
Says line said =
    Where (is_text line) (SaysTrimmed (without_leading_spaces line) said) (said ≡ Bad)
