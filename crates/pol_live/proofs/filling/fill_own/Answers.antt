use Rattle.std.proofs.Common.{true, ap, sym, ◌∙◌}
use Rattle.pol_scan.specs.Table.{count}
use Rattle.pol_live.specs.Kept.{slot}
use Rattle.pol_live.specs.Counting.{weight}
use Rattle.pol_live.proofs.FillFacts.{not_there}
use Rattle.pol_live.proofs.MeterFacts.{weight_put}
use Rattle.pol_live.proofs.filling.fill_own.Goals as goal

pub returns-clause-counts : goal.returns-clause-counts
returns-clause-counts c policy here =
    let owns = c.args.parts.now.owns in
    let none = not_there c.lookup.result (slot owns c.args.index) c.lookup.ensures (sym c.is_some.ensures ∙ c.if-is_some.false) in (
      count c.in_ok-own.own.table,
      ap (weight (λ _. true) policy) c.put.ensures ∙ weight_put (λ _. true) policy owns c.args.index c.args.subject.now c.in_ok-own.own here none c.requires,
      c.in_ok-own.ensures.raised,
    )
