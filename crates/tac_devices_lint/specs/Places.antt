-- Where something is told: at a byte of a line of the text, or right after its last.
use Rattle.std.specs.Prelude.{◌≡◌, ℕ, ◌+◌, ◌-◌, ◌≤◌, List, [], ◌∷◌, length, get_or, Option, Some, None}
use Rattle.basics.specs.Lines.{lines_of}
use Rattle.tac_devices_lint.specs.declared.remark.Found.{Found}
use Rattle.tac_devices_lint.specs.declared.remark.Remark.{Remark}

-- the column, counted from 1, at which this end of a line begins
abbrev pub column_of : List ℕ → List ℕ → ℕ
column_of line end = length line - length end + 1

-- a column of a line, or the one after its last
abbrev pub InLine : List ℕ → ℕ → Type 0
InLine line column = (1 ≤ column) × (column ≤ length line + 1)

-- the line of this number, counted from 1
abbrev pub line_of : List ℕ → ℕ → List ℕ
line_of text number = get_or (lines_of text) (number - 1) []

-- a number of a line
abbrev pub InText : List ℕ → ℕ → Type 0
InText text number = (1 ≤ number) × (number ≤ length (lines_of text))

-- the text has the line, and the line the column
abbrev pub IsPlaced : List ℕ → Remark → Type 0
IsPlaced text remark =
    InText text remark.line × InLine (line_of text remark.line) remark.column

-- it is told of the line of this number, at one of its columns
abbrev pub IsOfLine : ℕ → List ℕ → Remark → Type 0
IsOfLine number line remark = (remark.line ≡ number) × InLine line remark.column

-- what is told of the line of this number, if anything is
abbrev pub noted : ℕ → Option Found → List Remark
noted number None = []
noted number (Some found) =
    record { line = number; column = found.column; finding = found.finding } ∷ []
