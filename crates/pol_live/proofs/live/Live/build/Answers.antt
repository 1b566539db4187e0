use Rattle.pol_live.specs.Refusing.{is_memory}
use Rattle.pol_live.proofs.OnlyFacts.{only_built, small_memory, unless_so}
use Rattle.pol_live.proofs.RiseFacts.{one_rise}
use Rattle.pol_live.proofs.live.Live.build.Goals as goal

pub returns-clause-only : goal.returns-clause-only
returns-clause-only c = unless_so is_memory c.build_anew.result (λ h other k. only_built c.args.policy c.build_anew.result other h k) c.build_anew.ensures.found

pub returns-clause-small : goal.returns-clause-small
returns-clause-small c small = small_memory c.args.policy c.build_anew.result small c.build_anew.ensures.found

pub returns-clause-one_rise : goal.returns-clause-one_rise
returns-clause-one_rise c = one_rise _ _ c.args.policy
