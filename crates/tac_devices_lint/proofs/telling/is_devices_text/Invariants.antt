use Rattle.std.proofs.Common.{length}
use Rattle.tac_devices_lint.proofs.telling.is_devices_text.Given as goal

abbrev pub decreases-lines : goal.decreases-lines
decreases-lines l = length l.lines.lines
