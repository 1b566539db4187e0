use Rattle.std.proofs.Common.{sym, ◌∙◌}
use Rattle.tac_tally.proofs.Groups.{sums-user}
use Rattle.tac_tally.proofs.Places.{seen-more}
use Rattle.tac_tally.proofs.book.Book.group_tally.Goals as goal

pub subjects-preserved : goal.subjects-preserved
subjects-preserved c =
    let items = c.subjects-subject-items in
    let more = seen-more c.args.policy.now items.result.now c.subjects.subject-index c.subject-item.result items.ensures.subjects c.subjects-test.true c.subject-item.is in
    let below = sym c.in_ok-is_user_below.ensures ∙ c.if-not-branch.false in
    let tally = rw c.as_slice.ensures.value at c.tally-tally.ensures.value in
    rw more (sums-user _ _ _ _ c.subjects.subject-index c.subjects.total _ c.tally-tally.result c.subject-item.result below tally c.tally-tally.ensures.small c.plus-total.ensures c.subjects.invariant)
