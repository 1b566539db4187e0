use Rattle.std.proofs.Common.{length, All}
use Rattle.tac_devices_lint.specs.Places.{IsPlaced}
use Rattle.tac_devices_lint.proofs.PlaceFacts.{From}
use Rattle.tac_devices_lint.proofs.doubts.place_doubts.Given as goal

-- the lines that are left are those from their number on
abbrev pub invariant-lines : goal.invariant-lines
invariant-lines l = From l.text l.lines.number l.lines.lines × All (IsPlaced l.text) l.remarks

abbrev pub decreases-lines : goal.decreases-lines
decreases-lines l = length l.lines.lines
