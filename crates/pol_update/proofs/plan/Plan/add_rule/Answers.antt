use Rattle.pol_update.proofs.Takes.{rule_by}
use Rattle.pol_update.proofs.plan.Plan.add_rule.Goals as goal

pub returns : goal.returns
returns c = rule_by c.add.result c.args.id.now c.find.result c.args.place c.args.rule.now c.args.self.now c.add.new.self c.find.ensures.well_formed c.find.ensures.found c.is_none.ensures c.if-is_none.false
    c.requires.last c.requires.room c.source.ensures.again (rw (c.in_ok-pattern.ensures, c.source.ensures.bytes) at c.add.ensures.added)
