use Rattle.std.proofs.Common.{length}
use Rattle.tac_status.proofs.present.resident_bytes.Given as goal

abbrev pub decreases-lines : goal.decreases-lines
decreases-lines l = length l.rest
