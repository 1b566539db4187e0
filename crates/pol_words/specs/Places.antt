-- Where something is told: at a byte of a line, or right after its last.
use Rattle.std.specs.Prelude.{ℕ, ◌+◌, ◌-◌, List, [], ◌∷◌, length, Option, Some, None}
use Rattle.pol_words.specs.declared.finding.Finding.{Finding}
use Rattle.pol_words.specs.declared.remark.Found.{Found}
use Rattle.pol_words.specs.declared.remark.Remark.{Remark}

-- the column, counted from 1, at which this end of a line begins
abbrev pub column_of : List ℕ → List ℕ → ℕ
column_of line end = length line - length end + 1

abbrev pub found_at : List ℕ → List ℕ → Finding → Found
found_at line end finding = record { column = column_of line end; finding = finding }

-- what is told of the line of this number, if anything is
abbrev pub noted : ℕ → Option Found → List Remark
noted number None = []
noted number (Some found) =
    record { line = number; column = found.column; finding = found.finding } ∷ []
