use Rattle.pol_meaning.specs.Along.{entries_of}
use Rattle.pol_report.proofs.ReachFacts.{only_reached, if_ok_so}
use Rattle.pol_report.proofs.reaching.reach.Goals as goal

pub returns-in-Some-clause-only : goal.returns-in-Some-clause-only
returns-in-Some-clause-only c =
    if_ok_so c.reach_along.result (λ rows h other k. only_reached (entries_of c.args.live.now c.args.subject.now) rows other h k) (rw c.policy.ensures.policy at c.reach_along.ensures)
