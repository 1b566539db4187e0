use Rattle.pol_text.proofs.ChainFacts.{follows_parent}
use Rattle.pol_text.proofs.policy.Policy.chain.Goals as goal

pub returns-in-Some-clause-follows : goal.returns-in-Some-clause-follows
returns-in-Some-clause-follows c = rw (← c.self.view_is) (follows_parent c.self.inside.subjects c.self.invariant.0.short)

pub returns-in-None-clause-follows : goal.returns-in-None-clause-follows
returns-in-None-clause-follows c = rw (← c.self.view_is) (follows_parent c.self.inside.subjects c.self.invariant.0.short)
