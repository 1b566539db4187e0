use Rattle.std.proofs.Common.{sym, ap, ◌∙◌, is_some}
use Rattle.std.specs.Option.{option_map, option_and_then}
use Rattle.pol_text.specs.declared.subject.Subject.{Subject}
use Rattle.pol_text.specs.Policy.{ends_within, chain, entries}
use Rattle.pol_live.specs.Kept.{first_keeper}
use Rattle.pol_live.proofs.FillFacts.{all_at}
use Rattle.pol_live.proofs.KeeperFacts.{some_there}
use Rattle.pol_live.proofs.keeping.keeper.Goals as goal

pub keeper_within-requires-clause-ends : goal.keeper_within-requires-clause-ends
keeper_within-requires-clause-ends c subject here = all_at (ends_within 8 c.args.policy.now) c.args.policy.now c.in-Some.index subject c.in-Some.ensures.well_formed.short here

pub returns-in-Some-clause-keeper : goal.returns-in-Some-clause-keeper
returns-in-Some-clause-keeper c =
    let policy = c.args.policy.now in
    let there = some_there policy c.in-Some.index c.in-Some.ensures.within in
    c.keeper_within.ensures.keeper there.0 there.1
    ∙ sym (ap (option_and_then (λ (s : Subject). first_keeper (chain policy s))) (c.in-Some.ensures.found ∙ there.1))

pub returns-in-Some-clause-there : goal.returns-in-Some-clause-there
returns-in-Some-clause-there c =
    let there = some_there c.args.policy.now c.in-Some.index c.in-Some.ensures.within in
    sym (ap is_some (c.in-Some.ensures.found ∙ there.1))

pub returns-in-Some-clause-entries : goal.returns-in-Some-clause-entries
returns-in-Some-clause-entries c =
    let policy = c.args.policy.now in
    let there = some_there policy c.in-Some.index c.in-Some.ensures.within in
    c.keeper_within.ensures.entries there.0 there.1 ∙ sym (ap (option_map (entries policy)) (c.in-Some.ensures.found ∙ there.1))
