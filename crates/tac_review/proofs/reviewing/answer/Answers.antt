use Rattle.std.proofs.Common.{◌≤◌, length, arith}
use Rattle.tac_review.specs.Review.{IsRight, Reviews}
use Rattle.tac_review.proofs.ReadingFacts.{comes_to}
use Rattle.tac_review.proofs.reviewing.answer.Goals as goal

pub returns-clause-worked : goal.returns-clause-worked
returns-clause-worked g c =
    let few : length c.in_ok-text.text.items ≤ 268435456 = omega (arith, c.in_ok-text.text.ok, c.in_ok-text.ensures.bound) in
    comes_to (λ text output end. IsRight c.args.review (Reviews c.args.review c.args.names.0.now c.args.names.1.now c.args.first.now text) output end) c.in_ok-text.text.items _ _ _ _ c.in_ok-text.ensures.bytes c.in_ok-text.ensures.end few (rw c.as_slice.ensures.value at c.in_ok-printed.ensures)
