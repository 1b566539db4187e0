use Rattle.pol_meaning.specs.Along.{entries_of}
use Rattle.pol_report.proofs.ReachFacts.{AreReachedTo}
use Rattle.pol_report.proofs.reaching.reach_along.Given as goal

abbrev pub invariant-loop-place : goal.invariant-loop-place
invariant-loop-place l = AreReachedTo (entries_of l.policy l.id) l.place l.rows
