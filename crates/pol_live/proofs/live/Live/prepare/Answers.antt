use Rattle.std.proofs.Common.{rules}
use Rattle.pol_edit.specs.Applying.{is_memory}
use Rattle.pol_live.proofs.OnlyFacts.{only_prepared, unless_so}
use Rattle.pol_live.proofs.RiseFacts.{one_rise}
use Rattle.pol_live.proofs.live.Live.prepare.Goals as goal

pub returns-clause-found : goal.returns-clause-found
returns-clause-found c = search rules

pub returns-clause-only : goal.returns-clause-only
returns-clause-only c =
    unless_so is_memory c.map_err.result (λ h other k. only_prepared c.args.self.now c.args.edit.now c.map_err.result other h k) (returns-clause-found c)

pub returns-clause-one_rise : goal.returns-clause-one_rise
returns-clause-one_rise c = λ policy. one_rise _ _ policy
