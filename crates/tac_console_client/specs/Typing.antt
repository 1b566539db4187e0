-- What becomes of a line that a client reads, from a terminal, a file or a pipe (docs/CONSOLE.md).
use Rattle.std.specs.Prelude.{ℕ, List, [], ◌∷◌, ◌==◌, ◌-◌, length, take, codes, nat_eq, Bool, true}
use Rattle.std.specs.Prelude.{◌||◌, if◌then◌else◌}
use Rattle.std.specs.List.{ends_with}
use Rattle.std.specs.Str.{bytes_eq}
use Rattle.basics.specs.Lines.{without_leading_spaces}
use Rattle.tac_console_client.specs.declared.typing.Typed.{Typed}
use Rattle.tac_console_client.specs.declared.typing.Typed.TheVariants.{Nothing, Leave, Stop, Line}

-- a line may end in CR LF
abbrev pub without_return : List ℕ → List ℕ
without_return line =
    if ends_with nat_eq line (13 ∷ []) then take (length line - 1) line else line

-- an empty line, or a comment
abbrev pub says_nothing : List ℕ → Bool
says_nothing [] = true
says_nothing (byte ∷ rest) = byte == 35

-- those are passed over, also where spaces come before; two words are the client's own
abbrev pub typed : List ℕ → Typed
typed line =
    if says_nothing (without_leading_spaces line) then Nothing
    else if bytes_eq line (codes "exit") || bytes_eq line (codes "logout") then Leave
    else if bytes_eq line (codes "quit") then Stop else Line
