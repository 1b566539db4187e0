use Rattle.pol_update.proofs.Takes.{drop_next}
use Rattle.pol_update.proofs.plan.Plan.drop_rules.Goals as goal

pub rules-preserved : goal.rules-preserved
rules-preserved c = drop_next c.args.id.now c.rules.counter c.args.self.now c.rules.self c.drop_rule.new.self c.rules.invariant c.in_ok-drop_rule.ensures
