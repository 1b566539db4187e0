use Rattle.std.proofs.Common.{length}
use Rattle.tac_operators.proofs.session.Session.take.Given as goal

abbrev pub decreases-lines : goal.decreases-lines
decreases-lines g l = length l.rest
