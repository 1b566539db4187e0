use Rattle.pol_live.specs.Refusing.{is_memory}
use Rattle.pol_live.proofs.OnlyFacts.{only_replaced, unless_so}
use Rattle.pol_live.proofs.RiseFacts.{one_rise}
use Rattle.pol_live.proofs.live.Live.prepare_policy.Goals as goal

pub returns-clause-only : goal.returns-clause-only
returns-clause-only c =
    unless_so is_memory c.prepare_other.result (λ h other k. only_replaced c.args.self.now c.args.policy c.prepare_other.result other h k) c.prepare_other.ensures.found

pub returns-clause-one_rise : goal.returns-clause-one_rise
returns-clause-one_rise c = λ policy. one_rise _ _ policy
