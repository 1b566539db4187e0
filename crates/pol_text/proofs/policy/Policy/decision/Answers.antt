use Rattle.std.proofs.Common.{◌<◌, ◌≤◌, None, Some, sym, ◌∙◌, arith, refl}
use Rattle.pol_text.specs.Policy.{parent_of}
use Rattle.pol_text.proofs.ChainFacts.{first_step, first_end}
use Rattle.pol_text.proofs.policy.Policy.decision.Goals as goal

pub returns-in-Some : goal.returns-in-Some
returns-in-Some c =
    let left : c.chain.counter < 8 = omega arith in
    sym (c.chain.invariant.same ∙ first_step c.args.self.now c.chain.present.now c.args.line.now 8 c.chain.counter (parent_of c.args.self.now c.chain.present.now) left refl
    ∙ rw (← c.in-Some.ensures) refl)

pub returns-in-None : goal.returns-in-None
returns-in-None c =
    let left : c.chain.counter < 8 = omega arith in
    sym (c.chain.invariant.same ∙ first_step c.args.self.now c.chain.present.now c.args.line.now 8 c.chain.counter None left (sym c.in-None.ensures.found)
    ∙ rw (← c.in_default.ensures) refl)

pub chain-preserved : goal.chain-preserved
chain-preserved c =
    let left : c.chain.counter < 8 = omega arith in
    record {
      same = c.chain.invariant.same ∙ first_step c.args.self.now c.chain.present.now c.args.line.now 8 c.chain.counter (Some c.in-Some-parent_of.parent.now) left (sym c.in-Some-parent_of.ensures.found)
          ∙ rw (← c.in_default.ensures) refl;
      right = c.in-Some-parent_of.ensures.right;
    }

pub returns : goal.returns
returns c =
    let past : 8 ≤ c.chain.counter = omega arith in
    sym (c.chain.invariant.same ∙ first_end c.args.self.now c.chain.present.now c.args.line.now 8 c.chain.counter past)
