use Rattle.pol_edit.specs.Batches.{ran_out}
use Rattle.pol_live.proofs.OnlyFacts.{only_prepared_all, unless_so}
use Rattle.pol_live.proofs.RiseFacts.{one_rise}
use Rattle.pol_live.proofs.live.Live.prepare_all.Goals as goal

pub returns-clause-only : goal.returns-clause-only
returns-clause-only c =
    unless_so ran_out c.prepare_edits.result (λ h other k. only_prepared_all c.args.self.now c.args.edits.now c.prepare_edits.result other h k) c.prepare_edits.ensures.found

pub returns-clause-one_rise : goal.returns-clause-one_rise
returns-clause-one_rise c = λ policy. one_rise _ _ policy
