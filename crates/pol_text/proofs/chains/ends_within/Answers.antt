use Rattle.std.proofs.Common.{◌≡◌, ◌-◌, ◌<◌, ℕ, None, Some, sym, ap, ◌∙◌, arith}
use Rattle.pol_text.specs.Policy.{ends_within}
use Rattle.pol_text.proofs.ChainFacts.{ends_within_step, ends_within_none}
use Rattle.pol_text.proofs.chains.ends_within.Goals as goal

pub returns-in-None : goal.returns-in-None
returns-in-None c =
    let left : c.chain.counter < c.args.most = omega arith in
    sym (c.chain.invariant ∙ ends_within_step c.args.subjects.now c.chain.present.now c.args.most c.chain.counter None left (sym c.in-None.ensures))

pub chain-preserved : goal.chain-preserved
chain-preserved c =
    let left : c.chain.counter < c.args.most = omega arith in
    c.chain.invariant ∙ ends_within_step c.args.subjects.now c.chain.present.now c.args.most c.chain.counter (Some c.in-Some.parent.now) left (sym c.in-Some.ensures)

pub returns : goal.returns
returns c =
    let none_left : c.args.most - c.chain.counter ≡ 0 = omega arith in
    sym (c.chain.invariant ∙ ap (λ (n : ℕ). ends_within n c.args.subjects.now c.chain.present.now) none_left ∙ ends_within_none c.args.subjects.now c.chain.present.now)
