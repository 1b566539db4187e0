use Rattle.std.proofs.Common.{◌≡◌, ◌<◌, Some, length, get_or, slice_get, refl, sym, ap, ◌∙◌}
use Rattle.std.proofs.lemmas.Option.{slice_get_read}
use Rattle.pol_live.proofs.StayingFacts.{rule_there}
use Rattle.pol_live.proofs.staying.take_rules.Goals as goal

pub put-requires-clause-well_formed : goal.put-requires-clause-well_formed
put-requires-clause-well_formed c = rw c.loop-at.invariant c.requires.well_formed

pub put-requires-clause-there : goal.put-requires-clause-there
put-requires-clause-there c =
    let rules = c.args.was.now.rules in
    let i = c.loop-at.at in
    let rule = c.rule-item.result in
    let lt : i < length rules = rw (← c.as_slice-rule-items.ensures) c.loop-at-test.true in
    let at : get_or rules i rule ≡ rule = rw (← c.as_slice-rule-items.ensures) (sym c.rule-item.is) in
    let here : slice_get rules i ≡ Some rule = slice_get_read rules (length rules) i rule refl lt (sym at) in
    rw (c.loop-at.invariant, c.id-id.ensures, c.in_ok-copy.ensures) (rule_there _ rules i rule c.requires.same here)
