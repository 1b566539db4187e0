-- Arguments of a request (RFC 8907, section 6.1).
use Rattle.std.specs.Prelude.{ℕ, Bool, true, false, ◌||◌, List, [], ◌∷◌, Option, Some, None, ◌==◌}
use Rattle.std.specs.Prelude.{if◌then◌else◌}
use Rattle.std.specs.Option.{option_map}

pub record Argument : Type 0 where
  pub name : List ℕ
  pub mandatory : Bool
  pub value : List ℕ

-- the sign of a mandatory argument is `=`, that of an optional one `*`
abbrev pub sign : Bool → ℕ
sign true = 61
sign false = 42

abbrev pub is_sign : ℕ → Bool
is_sign byte = byte == sign true || byte == sign false

-- an argument with one more byte before its name
abbrev pub named_on : ℕ → Argument → Argument
named_on byte argument = record argument { name = byte ∷ argument.name }

-- the name is what stands before the first sign, and the value what stands after it
abbrev pub argument_of : List ℕ → Option Argument
argument_of [] = None
argument_of (byte ∷ bytes) =
    if byte == sign true then Some (record { name = []; mandatory = true; value = bytes })
    else (if byte == sign false then Some (record { name = []; mandatory = false; value = bytes })
    else option_map (named_on byte) (argument_of bytes))
