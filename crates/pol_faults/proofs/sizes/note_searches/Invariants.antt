use Rattle.std.proofs.Common.{◌≡◌, ◌++◌, List, All, length}
use Rattle.basics.specs.Lines.{lines_of}
use Rattle.pol_words.specs.declared.remark.Remark.{Remark}
use Rattle.pol_faults.specs.Sizes.{IsSearch, rules_from, rules_along}
use Rattle.pol_faults.proofs.SizeFacts.{Among}
use Rattle.pol_faults.proofs.sizes.note_searches.Given as goal

-- what was told so far, and the lines that are left are among all
abbrev pub invariant-lines : goal.invariant-lines
invariant-lines l =
    (told : List Remark) × (l.remarks ≡ l.fn.remarks ++ told)
    × All (IsSearch (rules_along l.headings l.large (lines_of l.text))) told
    × Among (rules_from l.headings l.large l.along l.lines.number l.lines.lines) (rules_along l.headings l.large (lines_of l.text))

abbrev pub decreases-lines : goal.decreases-lines
decreases-lines l = length l.lines.lines
