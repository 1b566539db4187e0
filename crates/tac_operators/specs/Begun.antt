-- A line of an operator, as it comes: at most so many bytes, without its LF.
use Rattle.std.specs.Prelude.{ℕ, List, [], ◌++◌, ◌-◌, length, nat_lt, true, false}
use Rattle.std.specs.Prelude.{Option, Some, None, if◌then◌else◌}
use Rattle.tac_operators.specs.declared.lines.Begun.{Begun}

abbrev pub longest : ℕ
longest = 131072

abbrev pub nothing : Begun
nothing = record { text = []; is_long = false }

-- of a line that is too long nothing is kept, whatever else comes of it
abbrev pub added : Begun → List ℕ → Begun
added begun piece =
    if begun.is_long then begun
    else if nat_lt (longest - length begun.text) (length piece)
    then record { text = []; is_long = true }
    else record begun { text = begun.text ++ piece }

abbrev pub line : Begun → Option (List ℕ)
line begun = if begun.is_long then None else Some begun.text
