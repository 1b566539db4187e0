use Rattle.std.proofs.Common.{Ok, Err, ◌∙◌}
use Rattle.tac_review.proofs.OnlyFacts.{ok_so, changes_only}
use Rattle.tac_review.proofs.review_output.differ.Goals as goal

pub returns : goal.returns
returns c =
    let compared = c.in_ok-changes in
    let became = c.as_slice.ensures ∙ (rw (c.policy.ensures.policy, c.policy-2.ensures.policy) at c.in_ok-secrets.ensures.changes) in
    ok_so c.show.result
    (λ output shown. changes_only c.args.old.now c.args.new.now compared.changes c.as_slice.result.now output.0.items output.1 compared.ensures.found compared.ensures.only became shown.0 shown.1)
    c.show.ensures
