use Rattle.std.proofs.Common.{ap, sym, ◌∙◌, List, ℕ, sum, length, arith}
use Rattle.tac_request.proofs.ArgumentsFacts.{sum-bytes}
use Rattle.tac_request.proofs.arguments.Arguments.of_parts.Goals as goal

pub invariant_of-result : goal.invariant_of-result
invariant_of-result c =
    let lens = c.in_ok-lengths.ensures.items in
    let bytes = c.in_ok-joined.ensures.items in
    let most = sum-bytes c.args.lengths.now (λ i. omega (arith, c.type_inv.lengths i)) in
    let count = ap (λ (l : List ℕ). length l) lens in
    let size = ap (λ (l : List ℕ). length l) bytes in
    (ap (λ (l : List ℕ). sum l) lens ∙ c.requires.whole ∙ sym size, omega (arith, count, c.requires.few), omega (arith, count, size, c.requires.whole, most))
