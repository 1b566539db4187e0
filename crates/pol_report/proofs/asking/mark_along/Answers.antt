use Rattle.std.proofs.Common.{◌∙◌, None, Some, is_some, sym, ap}
use Rattle.pol_report.proofs.AskingFacts.{first_step, first_end}
use Rattle.pol_report.proofs.asking.mark_along.Goals as goal

pub returns-in-None-clause-marked : goal.returns-in-None-clause-marked
returns-in-None-clause-marked c = λ service place at none.
    let here = c.mark_named.ensures.marked service place at none in
    let before = c.chain.invariant.1 service place at here.0 in
    (before.0, ap is_some (before.1 ∙ first_step service c.args.policy.now c.chain.present.now c.chain.counter None c.chain-test.true (sym c.in-None.ensures.found) (rw (← c.as_slice.ensures) here.1)))

pub chain-preserved : goal.chain-preserved
chain-preserved c = (
  c.mark_named.ensures.length,
  λ service place at none.
      let here = c.mark_named.ensures.marked service place at none in
      let before = c.chain.invariant.1 service place at here.0 in
      (before.0, before.1 ∙ first_step service c.args.policy.now c.chain.present.now c.chain.counter (Some c.in-Some.parent.now) c.chain-test.true (sym c.in-Some.ensures.found) (rw (← c.as_slice.ensures) here.1)),
)

pub returns-clause-marked : goal.returns-clause-marked
returns-clause-marked c = λ service place at none.
    let before = c.chain.invariant.1 service place at none in
    (before.0, ap is_some (before.1 ∙ first_end service c.args.policy.now c.chain.present.now c.chain.counter c.chain-test.false))
