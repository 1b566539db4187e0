use Rattle.std.proofs.Common.{length}
use Rattle.tac_review.proofs.LoadingFacts.{Printed}
use Rattle.tac_review.proofs.loading.printed.Given as goal

abbrev pub invariant-batches : goal.invariant-batches
invariant-batches l = Printed l.fn.old l.live l.edits l.rest l.text.items l.batches

abbrev pub decreases-batches : goal.decreases-batches
decreases-batches l = length l.rest
