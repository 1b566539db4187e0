use Rattle.std.proofs.Common.{◌++◌, length}
use Rattle.basics.specs.Lines.{lines_of}
use Rattle.pol_text.specs.Text.{body_of}
use Rattle.pol_words.specs.Plain.{Alike}
use Rattle.pol_faults.specs.Faults as faults
use Rattle.pol_faults.proofs.faults.lines_faults.Given as goal

-- what was told so far, and then what is told of the lines that are left, is what is told of all
abbrev pub invariant-lines : goal.invariant-lines
invariant-lines l =
    Alike (l.remarks ++ faults.lines_faults l.version l.present l.lines.number l.lines.lines) (faults.body_faults (body_of (lines_of l.text)))

abbrev pub decreases-lines : goal.decreases-lines
decreases-lines l = length l.lines.lines
