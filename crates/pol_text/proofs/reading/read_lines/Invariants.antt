use Rattle.std.proofs.Common.{◌≡◌, length}
use Rattle.basics.specs.Lines.{lines_of}
use Rattle.pol_text.specs.Text.{with_lines, with_body, body_of}
use Rattle.pol_text.proofs.reading.read_lines.Given as goal

-- reading the rest into the draft so far is reading all
abbrev pub invariant-lines : goal.invariant-lines
invariant-lines l = with_lines l.version l.lines.number l.lines.lines l.draft ≡ with_body (body_of (lines_of l.text))

abbrev pub decreases-lines : goal.decreases-lines
decreases-lines l = length l.lines.lines
