use Rattle.std.proofs.Common.{length}
use Rattle.pol_habits.proofs.remarks.told_of.Given as goal

abbrev pub decreases-lines : goal.decreases-lines
decreases-lines l = length l.lines.lines
