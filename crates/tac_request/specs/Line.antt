-- The command line that a request's arguments make (RFC 8907, section 8.2), and what an
-- authorisation request asks for.
use Rattle.std.specs.Prelude.{ℕ, Bool, List, [], ◌∷◌, ◌++◌, Option, Some, None, is_some}
use Rattle.std.specs.Prelude.{slice_get}
use Rattle.std.specs.Prelude.{option_and_then, if◌then◌else◌, codes}
use Rattle.std.specs.List.{filter_map, flat_map, list_all}
use Rattle.std.specs.Str.{bytes_eq}
use Rattle.tac_request.specs.Argument.{argument_of}
use Rattle.tac_request.specs.declared.line.LineOf.{LineOf}
use Rattle.tac_request.specs.declared.line.LineOf.TheVariants.{Line, BadArgument, NotShell}
use Rattle.tac_request.specs.declared.line.Requested.{Requested}
use Rattle.tac_request.specs.declared.line.Requested.TheVariants as asks

abbrev pub has_sign : List ℕ → Bool
has_sign arg = is_some (argument_of arg)

-- the value of an argument, if it has this name
abbrev pub value_under : List ℕ → List ℕ → Option (List ℕ)
value_under name arg =
    option_and_then (λ argument. if bytes_eq argument.name name then Some argument.value
    else None) (argument_of arg)

-- the values of the arguments with this name, in order
abbrev pub values_under : List ℕ → List (List ℕ) → List (List ℕ)
values_under name args = filter_map (value_under name) args

-- a word of the line, after a space
abbrev pub spaced : List ℕ → List ℕ
spaced word = 32 ∷ word

-- a command and its further words
abbrev pub joined : List ℕ → List (List ℕ) → List ℕ
joined cmd words = cmd ++ flat_map spaced words

-- the line of this service, this command and these further words
abbrev pub shell_line : Option (List ℕ) → Option (List ℕ) → List (List ℕ) → LineOf
shell_line None cmd words = NotShell
shell_line (Some service) None words = NotShell
shell_line (Some service) (Some cmd) words =
    if bytes_eq service (codes "shell") then Line (joined cmd words) else NotShell

-- the first service, the first command, and each of its arguments
abbrev pub line_of : List (List ℕ) → LineOf
line_of args =
    if list_all has_sign args
    then shell_line (slice_get (values_under (codes "service") args) 0)
    (slice_get (values_under (codes "cmd") args) 0) (values_under (codes "cmd-arg") args)
    else BadArgument

-- the arguments make a line
abbrev pub IsLine : LineOf → Type 0
IsLine (Line line) = Unit {0}
IsLine BadArgument = ⊥
IsLine NotShell = ⊥

-- ---- what is asked for

abbrev pub unless_empty : List ℕ → Option (List ℕ)
unless_empty [] = None
unless_empty (byte ∷ text) = Some (byte ∷ text)

-- the protocol that an argument names: the empty text is none
abbrev pub protocol_in : List ℕ → Option (List ℕ)
protocol_in arg = option_and_then unless_empty (value_under (codes "protocol") arg)

-- the first of them
abbrev pub protocol_of : List (List ℕ) → Option (List ℕ)
protocol_of args = slice_get (filter_map protocol_in args) 0

-- no line, of the first service, if there is one: of a shell a command has to be asked for
abbrev pub without_line : Option (List ℕ) → Option (List ℕ) → Requested
without_line None protocol = asks.NoService
without_line (Some service) protocol =
    if bytes_eq service (codes "shell") then asks.NoService else asks.Other service protocol

abbrev pub requested_by : LineOf → List (List ℕ) → Requested
requested_by (Line line) args = asks.Shell line
requested_by BadArgument args = asks.NoSign
requested_by NotShell args =
    without_line (slice_get (values_under (codes "service") args) 0) (protocol_of args)

-- what the arguments of a request ask for: the line of a shell, or another service
abbrev pub requested : List (List ℕ) → Requested
requested args = requested_by (line_of args) args

-- what is asked for has a text
abbrev pub HasText : Requested → Type 0
HasText (asks.Shell line) = Unit {0}
HasText (asks.Other service protocol) = Unit {0}
HasText asks.NoSign = ⊥
HasText asks.NoService = ⊥
