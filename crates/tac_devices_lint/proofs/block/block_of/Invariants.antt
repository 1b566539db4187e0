use Rattle.std.proofs.Common.{length}
use Rattle.tac_devices_lint.proofs.block.block_of.Given as goal

abbrev pub decreases-lines : goal.decreases-lines
decreases-lines l = length l.lines.lines
