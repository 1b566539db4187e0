use Rattle.std.proofs.Common.{◌≡◌, length}
use Rattle.basics.specs.Lines.{lines_of}
use Rattle.tac_start.specs.Descriptors.{limit_in}
use Rattle.tac_start.proofs.descriptors.limit_of.Given as goal

-- what the lines that are left tell is what all tell
abbrev pub invariant-lines : goal.invariant-lines
invariant-lines l = limit_in l.lines.lines ≡ limit_in (lines_of l.text)

abbrev pub decreases-lines : goal.decreases-lines
decreases-lines l = length l.lines.lines
