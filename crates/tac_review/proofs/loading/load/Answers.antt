use Rattle.pol_update.specs.Update.{Updates}
use Rattle.tac_review.proofs.loading.load.Goals as goal

pub returns : goal.returns
returns c =
    let found : Updates c.args.old c.in_ok-edits.edits c.args.new.now = rw c.policy.ensures.policy at c.in_ok-edits.ensures.found in
    let none = rw c.policy.ensures.policy at c.in_ok-edits.ensures.none in
    c.printed.ensures c.args.new.now (rw c.as_slice.ensures found) (rw c.as_slice.ensures none)
