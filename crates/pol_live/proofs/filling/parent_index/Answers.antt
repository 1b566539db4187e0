use Rattle.std.proofs.Common.{is_some, sym, ap, ◌∙◌}
use Rattle.pol_text.specs.Policy.{find_subject}
use Rattle.pol_text.proofs.ChainFacts.{inherits_entries}
use Rattle.pol_live.proofs.FillFacts.{some_index, group_there, inherits_none}
use Rattle.pol_live.proofs.filling.parent_index.Goals as goal

pub returns-in_default-clause-inherits : goal.returns-in_default-clause-inherits
returns-in_default-clause-inherits c _ = inherits_none c.args.policy.now c.args.subject.now c.in_default.is

pub returns-clause-inherits : goal.returns-clause-inherits
returns-clause-inherits c = inherits_entries c.args.policy.now c.index_of.ensures.well_formed.short c.args.subject.now

pub returns-clause-grouped : goal.returns-clause-grouped
returns-clause-grouped c inside =
    let policy = c.args.policy.now in
    let there = group_there policy c.args.subject.now c.in-Some.parent c.index_of.ensures.well_formed.parents inside c.in-Some.is in
    some_index policy c.index_of.result _ (ap (λ id. find_subject id policy) (sym c.group.ensures) ∙ c.index_of.ensures.found) there ∙ sym (ap is_some c.in-Some.is)
