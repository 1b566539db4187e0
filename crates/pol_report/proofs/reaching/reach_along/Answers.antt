use Rattle.std.proofs.Common.{◌≡◌, map, get_or, sym, ◌∙◌}
use Rattle.pol_live.specs.ChainRules.{chain_rule}
use Rattle.pol_meaning.specs.Along.{entries_of}
use Rattle.pol_report.proofs.ReachFacts.{more_rows, reached_text}
use Rattle.pol_report.proofs.reaching.reach_along.Goals as goal

pub loop-place-preserved : goal.loop-place-preserved
loop-place-preserved c =
    let along = entries_of c.args.policy.now c.args.id.now in
    let items = c.deref-rule-items.ensures.value ∙ c.in_ok-rules.ensures in
    let at : get_or (map chain_rule along) c.loop-place.place c.rule-item.result ≡ c.rule-item.result = rw (← items) (sym c.rule-item.is) in
    rw (c.in_ok-push.ensures.ok, c.line_of.ensures) (more_rows along c.loop-place.place c.loop-place.rows c.rule-item.result _ at c.loop-place.invariant
    (reached_text c.requires.law (λ line. line.items) along c.loop-place.place c.in_ok-text.text (c.in_ok-text.ensures.reached _ c.requires.right) (c.in_ok-text.ensures.never _ c.requires.right)))
