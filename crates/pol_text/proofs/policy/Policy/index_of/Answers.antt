use Rattle.std.proofs.Common.{sym, ap, ◌∙◌}
use Rattle.std.specs.List.{position}
use Rattle.pol_names.specs.SubjectId.{same_id}
use Rattle.pol_text.proofs.SubjectFacts.{indexed}
use Rattle.pol_text.proofs.policy.Policy.index_of.Goals as goal

pub returns-clause-found : goal.returns-clause-found
returns-clause-found c =
    let at = sym (ap (position (same_id c.args.id.now)) c.self.invariant.1) ∙ sym c.get_index_of.ensures.index in
    rw (← c.self.view_is) (indexed c.args.id.now c.self.inside.subjects c.get_index_of.result at)
