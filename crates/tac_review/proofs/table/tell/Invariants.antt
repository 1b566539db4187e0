use Rattle.std.proofs.Common.{◌≡◌, length}
use Rattle.basics.specs.Lines.{lines_of}
use Rattle.tac_review.specs.Tables.{tells, onto}
use Rattle.tac_review.proofs.table.tell.Given as goal

-- what is told of all lines is what was told so far, and what is told of those that are left
abbrev pub invariant-lines : goal.invariant-lines
invariant-lines l = tells l.table l.live 1 (lines_of l.text) ≡ onto l.told (tells l.table l.live l.lines.number l.lines.lines)

abbrev pub decreases-lines : goal.decreases-lines
decreases-lines l = length l.lines.lines
