use Rattle.std.proofs.Common.{◌≡◌, ℕ, Bool, List, subst}
use Rattle.std.specs.List.{AllZip, slice_index_or}
use Rattle.std.proofs.lemmas.List.{take_all, get_or_default}
use Rattle.pol_automaton.specs.Joining.{joined_sure}
use Rattle.pol_automaton.proofs.Zips.{zip_more}
use Rattle.pol_automaton.proofs.joining.sures_of_pairs.Goals as goal

pub loop-pair-preserved : goal.loop-pair-preserved
loop-pair-preserved c =
    let pairs = c.args.pairs.now in
    let i = c.loop-pair.pair-index in
    let pair : ℕ × ℕ = slice_index_or pairs i (0, 0) in
    rw c.in_ok-push.ensures.items
    (zip_more (λ (p : ℕ × ℕ) (sure : Bool). sure ≡ joined_sure c.args.first.now c.args.rest.now p.0 p.1) pairs c.loop-pair.sures.items i pair c.is_sure_pair.result
    c.loop-pair-test.true (get_or_default pairs i (0, 0) pair c.loop-pair-test.true) c.loop-pair.invariant c.is_sure_pair.ensures)

pub returns : goal.returns
returns c =
    subst (λ (l : List (ℕ × ℕ)). AllZip (λ (p : ℕ × ℕ) (sure : Bool). sure ≡ joined_sure c.args.first.now c.args.rest.now p.0 p.1) l c.loop-pair.sures.items)
    (take_all c.loop-pair.pair-index c.args.pairs.now c.loop-pair-test.false) c.loop-pair.invariant
