use Rattle.pol_given.proofs.GrantFacts.{sent_so}
use Rattle.pol_given.proofs.granting.given.Goals as goal

pub returns-clause-sent : goal.returns-clause-sent
returns-clause-sent c = sent_so c.args.policy.now c.args.user.now c.args.service.now c.args.decision c.grant.result c.grant.ensures
