use Rattle.pol_deriv.proofs.Steps.{item_within}
use Rattle.policy_tests.proofs.automaton.residuals.has_any_text.Goals as goal

pub is_any_text-requires : goal.is_any_text-requires
is_any_text-requires c =
    let items = c.numbers-number-items.ensures.numbers in
    rw items (item_within c.args.terms.now c.args.terms.now c.args.set.now c.loop-number.number-index (λ n t m. m) c.requires (rw items at c.loop-number-test.true))
