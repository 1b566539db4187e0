use Rattle.std.proofs.Common.{sym, ap, ◌∙◌}
use Rattle.std.specs.Option.{option_map}
use Rattle.pol_text.specs.Policy.{entries}
use Rattle.pol_live.specs.ChainRules.{decision_by}
use Rattle.pol_live.proofs.MatchFacts.{none_decides, first_decides}
use Rattle.pol_live.proofs.deciding.decided.Goals as goal

pub returns-in_default : goal.returns-in_default
returns-in_default c its here right = sym (none_decides c.in_default.ensures.law (entries c.args.policy.now its) c.args.line.now (c.in_default.ensures.first _ right))

pub returns-in-None : goal.returns-in-None
returns-in-None c its here right =
    let first = first_decides c.in-Some.ensures.law (entries c.args.policy.now its) c.args.line.now c.in-Some.place (c.in-Some.ensures.first _ right) in
    let none = ap (option_map decision_by) (sym (c.chain_rule.ensures its here) ∙ c.in-None.is) in
    absurd cc

pub returns-in-Some-chain_rule : goal.returns-in-Some-chain_rule
returns-in-Some-chain_rule c its here right =
    let first = first_decides c.in-Some.ensures.law (entries c.args.policy.now its) c.args.line.now c.in-Some.place (c.in-Some.ensures.first _ right) in
    let some = ap (option_map decision_by) (sym (c.chain_rule.ensures its here) ∙ c.in-Some-chain_rule.is) in
    rw c.decision.ensures cc
