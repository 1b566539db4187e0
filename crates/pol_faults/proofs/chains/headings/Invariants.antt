use Rattle.std.proofs.Common.{◌≡◌, ◌++◌, length}
use Rattle.basics.specs.Lines.{lines_of}
use Rattle.pol_faults.specs.Chains as chains
use Rattle.pol_faults.proofs.chains.headings.Given as goal

-- those found so far, and then those of the lines that are left, are all
abbrev pub invariant-lines : goal.invariant-lines
invariant-lines l = l.found ++ chains.headings l.lines.number l.lines.lines ≡ chains.headings 1 (lines_of l.text)

abbrev pub decreases-lines : goal.decreases-lines
decreases-lines l = length l.lines.lines
