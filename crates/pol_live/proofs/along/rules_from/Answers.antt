use Rattle.std.proofs.Common.{◌<◌, ◌≤◌, None, Some, sym, ◌∙◌, arith, append-nil}
use Rattle.pol_live.proofs.AlongFacts.{rules_step, rules_end}
use Rattle.pol_live.proofs.along.rules_from.Goals as goal

pub returns-in-None : goal.returns-in-None
returns-in-None c =
    let left : c.chain.counter < 8 = omega arith in
    sym (append-nil c.add_rules.new.rules.items)
    ∙ rules_step c.args.policy.now c.chain.present.now c.chain.counter None _ _ _ left (sym c.in-None.ensures.found) c.chain.invariant.all c.in_ok-add_rules.ensures

pub chain-preserved : goal.chain-preserved
chain-preserved c =
    let left : c.chain.counter < 8 = omega arith in
    record {
      all = rules_step c.args.policy.now c.chain.present.now c.chain.counter (Some c.in-Some.group.now) _ _ _ left (sym c.in-Some.ensures.found) c.chain.invariant.all c.in_ok-add_rules.ensures;
      few = c.in-Some.ensures.few;
    }

pub returns : goal.returns
returns c =
    let past : 8 ≤ c.chain.counter = omega arith in
    rules_end c.args.policy.now c.chain.present.now c.chain.counter _ _ past c.chain.invariant.all
