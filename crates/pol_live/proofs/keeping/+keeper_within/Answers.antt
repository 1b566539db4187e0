use Rattle.std.proofs.Common.{◌≡◌, ◌-◌, ◌<◌, Some, true, true≢false, sym, ap, subst, ◌∙◌, arith}
use Rattle.std.proofs.lemmas.Option.{same_Some, slice_get-get_or}
use Rattle.pol_text.specs.declared.subject.Subject.{Subject}
use Rattle.pol_text.specs.Policy.{ends_within, chain_within, entries}
use Rattle.pol_live.specs.Kept.{first_keeper}
use Rattle.pol_live.proofs.FillFacts.{ends_above, contains_at}
use Rattle.pol_live.proofs.KeeperFacts.{keeper_here, keeper_above, entries_above, has_group}
use Rattle.pol_live.proofs.keeping.+keeper_within.Goals as goal

pub returns-then-is_keeper-clause-keeper : goal.returns-then-is_keeper-clause-keeper
returns-then-is_keeper-clause-keeper t c subject here =
    let policy = c.args.policy.now in
    let same : c.in-Some.subject.now ≡ subject = same_Some _ subject (c.in-Some.ensures.found ∙ here) in
    let keeper = sym c.is_keeper.ensures ∙ c.if-is_keeper.true in
    here ∙ ap Some (sym same) ∙ keeper_here c.args.most policy c.in-Some.subject.now (c.requires.ends c.in-Some.subject.now (sym c.in-Some.ensures.found)) keeper
    ∙ ap (λ (s : Subject). first_keeper (chain_within c.args.most policy s)) same

pub overflow_sub-most : goal.overflow_sub-most
overflow_sub-most t c =
    let policy = c.args.policy.now in
    let subject = c.in-Some.subject.now in
    let there = slice_get-get_or policy c.in-Some-parent_index.parent subject c.in-Some-parent_index.ensures.within in
    (ends_above c.args.most policy subject _ (c.requires.ends subject (sym c.in-Some.ensures.found)) (c.in-Some-parent_index.ensures.found ∙ there)).0

pub keeper_within-requires : goal.keeper_within-requires
keeper_within-requires t c =
    let policy = c.args.policy.now in
    let subject = c.in-Some.subject.now in
    let there = slice_get-get_or policy c.in-Some-parent_index.parent subject c.in-Some-parent_index.ensures.within in
    let ends = ends_above c.args.most policy subject _ (c.requires.ends subject (sym c.in-Some.ensures.found)) (c.in-Some-parent_index.ensures.found ∙ there) in
    let some = ends.0 in
    let less = c.decreases in
    let shorter : c.args.most - 1 < t = omega arith in
    (shorter, (c.in-Some-parent_index.ensures.within, (λ group its. subst (λ (g : Subject). ends_within (c.args.most - 1) policy g ≡ true) (same_Some _ group (sym there ∙ its)) ends.1)))

pub returns-in-Some-parent_index-clause-keeper : goal.returns-in-Some-parent_index-clause-keeper
returns-in-Some-parent_index-clause-keeper t c subject here =
    let policy = c.args.policy.now in
    let its = c.in-Some.subject.now in
    let same : its ≡ subject = same_Some _ subject (c.in-Some.ensures.found ∙ here) in
    let there = slice_get-get_or policy c.in-Some-parent_index.parent its c.in-Some-parent_index.ensures.within in
    let passed = sym c.is_keeper.ensures ∙ c.if-is_keeper.false in
    c.keeper_within.ensures.keeper _ there
    ∙ keeper_above c.args.most policy its _ (c.requires.ends its (sym c.in-Some.ensures.found)) passed (c.in-Some-parent_index.ensures.found ∙ there)
    ∙ ap (λ (s : Subject). first_keeper (chain_within c.args.most policy s)) same

pub returns-in-Some-parent_index-clause-entries : goal.returns-in-Some-parent_index-clause-entries
returns-in-Some-parent_index-clause-entries t c subject here =
    let policy = c.args.policy.now in
    let its = c.in-Some.subject.now in
    let same : its ≡ subject = same_Some _ subject (c.in-Some.ensures.found ∙ here) in
    let there = slice_get-get_or policy c.in-Some-parent_index.parent its c.in-Some-parent_index.ensures.within in
    let passed = sym c.is_keeper.ensures ∙ c.if-is_keeper.false in
    let inherits = c.in-Some-parent_index.ensures.inherits (contains_at policy c.args.index its (sym c.in-Some.ensures.found)) in
    c.keeper_within.ensures.entries _ there
    ∙ ap Some (entries_above policy its _ passed inherits (c.in-Some-parent_index.ensures.found ∙ there) ∙ ap (entries policy) same)

pub returns-in-None-clause-keeper : goal.returns-in-None-clause-keeper
returns-in-None-clause-keeper t c subject here =
    let its = c.in-Some.subject.now in
    let passed = sym c.is_keeper.ensures ∙ c.if-is_keeper.false in
    let grouped = c.in-None.ensures.grouped (contains_at c.args.policy.now c.args.index its (sym c.in-Some.ensures.found)) in
    absurd (true≢false (sym (has_group its passed) ∙ sym grouped))
