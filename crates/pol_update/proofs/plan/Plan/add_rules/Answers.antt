use Rattle.pol_update.proofs.Takes.{rule_next}
use Rattle.pol_update.proofs.plan.Plan.add_rules.Goals as goal

pub rules-preserved : goal.rules-preserved
rules-preserved c =
    rule_next c.args.id.now c.rules.place c.args.rules.now c.index-rules-place.result c.args.self.now c.rules.self c.add_rule.new.self c.rules-test.true c.index-rules-place.is c.rules.invariant c.in_ok-add_rule.ensures
