use Rattle.pol_live.proofs.StayingFacts.{may_remove, may_insert, put_same}
use Rattle.pol_live.proofs.staying.put.Goals as goal

pub remove_rule-requires : goal.remove_rule-requires
remove_rule-requires c = may_remove c.args.id.now c.args.policy.now c.args.at c.args.rule c.requires.well_formed c.requires.there

pub insert_rule-requires : goal.insert_rule-requires
insert_rule-requires c =
    may_insert c.args.id.now c.args.policy.now c.args.at c.args.rule c.requires.well_formed c.requires.there c.remove_rule.new.self c.remove_rule.ensures.changed

pub returns : goal.returns
returns c =
    put_same c.args.id.now c.args.policy.now c.args.at c.args.rule c.requires.well_formed c.requires.there c.remove_rule.new.self c.insert_rule.new.self c.remove_rule.ensures.changed c.in_ok-insert_rule.ensures.ok
