-- Whose batch it is, where several operators type at one console (docs/CONSOLE.md, "On a socket").
use Rattle.std.specs.Prelude.{ℕ, List, codes, ◌||◌, Option, Some, None, if◌then◌else◌}
use Rattle.std.specs.Option.{option_map_or}
use Rattle.std.specs.Str.{bytes_eq}
use Rattle.pol_edit.specs.EditText.{edit_of}
use Rattle.tac_operators.specs.declared.part.Part.{Part}
use Rattle.tac_operators.specs.declared.part.Part.TheVariants as parts
use Rattle.tac_operators.specs.declared.board.Operator.{Operator}

-- what a line has to do with the batch
abbrev pub part_of : List ℕ → Part
part_of line =
    if bytes_eq line (codes "begin") then parts.Begins
    else if bytes_eq line (codes "commit") || bytes_eq line (codes "abandon") then parts.Ends
    else option_map_or (λ edit. parts.Edits) (edit_of line) parts.Beside

-- who holds the batch once a line of this operator was answered
abbrev pub holder_after : Option Operator → Operator → Part → Option Operator
holder_after holder operator parts.Begins = Some operator
holder_after holder operator parts.Edits = holder
holder_after holder operator parts.Ends = None
holder_after holder operator parts.Beside = holder
