use Rattle.std.proofs.Common.{◌≡◌, ◌++◌, List, length, All}
use Rattle.tac_devices_lint.specs.Places.{IsOfLine}
use Rattle.tac_devices_lint.specs.declared.remark.Remark.{Remark}
use Rattle.tac_devices_lint.proofs.doubts.note_doubts.Given as goal

-- what was added is of this line
abbrev pub invariant-doubts : goal.invariant-doubts
invariant-doubts l =
    (told : List Remark) × All (IsOfLine l.number l.line) told × (l.remarks ≡ l.initial.remarks ++ told)

abbrev pub decreases-doubts : goal.decreases-doubts
decreases-doubts l = length l.rest
