use Rattle.std.proofs.Common.{◌≡◌, length}
use Rattle.tac_devices.specs.KeyDoubt.{has_comment}
use Rattle.tac_devices.proofs.doubt.has_comment.Given as goal

abbrev pub invariant-blanks : goal.invariant-blanks
invariant-blanks l = has_comment l.rest ≡ has_comment l.key

abbrev pub decreases-blanks : goal.decreases-blanks
decreases-blanks l = length l.rest
