use Rattle.std.proofs.Common.{◌≡◌, ◌++◌, length}
use Rattle.basics.specs.Lines.{lines_of}
use Rattle.tac_audit.proofs.typing.texts_of.Given as goal

-- the texts so far, and the lines that are left, are all lines
abbrev pub invariant-lines : goal.invariant-lines
invariant-lines l = l.texts ++ l.lines.lines ≡ lines_of l.fn.text

abbrev pub decreases-lines : goal.decreases-lines
decreases-lines l = length l.lines.lines
