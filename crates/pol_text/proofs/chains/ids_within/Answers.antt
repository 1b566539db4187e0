use Rattle.std.proofs.Common.{◌<◌, ◌≤◌, None, Some, sym, ◌∙◌, arith, append-nil}
use Rattle.pol_text.proofs.ChainFacts.{ids_step, ids_end}
use Rattle.pol_text.proofs.chains.ids_within.Goals as goal

pub returns-in-None : goal.returns-in-None
returns-in-None c =
    let left : c.chain.counter < c.args.most = omega arith in
    sym (append-nil c.push.new.self)
    ∙ ids_step c.args.subjects.now c.chain.present.now c.args.most c.chain.counter None c.chain.ids c.push.new.self _ left (sym c.in-None.ensures) c.chain.invariant (rw (← c.id.ensures) c.in_ok-push.ensures.ok)

pub chain-preserved : goal.chain-preserved
chain-preserved c =
    let left : c.chain.counter < c.args.most = omega arith in
    ids_step c.args.subjects.now c.chain.present.now c.args.most c.chain.counter (Some c.in-Some.parent.now) c.chain.ids c.push.new.self _ left (sym c.in-Some.ensures) c.chain.invariant (rw (← c.id.ensures) c.in_ok-push.ensures.ok)

pub returns : goal.returns
returns c =
    let past : c.args.most ≤ c.chain.counter = omega arith in
    ids_end c.args.subjects.now c.chain.present.now c.args.most c.chain.counter c.chain.ids _ past c.chain.invariant
