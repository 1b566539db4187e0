use Rattle.std.proofs.Common.{arith}
use Rattle.std.proofs.lemmas.List.Filters.{dedup_is}
use Rattle.std.proofs.lemmas.List.Kept.{Contains-dedup, Contains-from_dedup, IsStrictlySortedBy-dedup}
use Rattle.std.proofs.lemmas.List.Sorted.{Contains-permutation, IsPermutation-sym}
use Rattle.pol_automaton.specs.Order.{same_item, order_total, same_ties, same_equiv, same_is}
use Rattle.pol_automaton.proofs.Cut.{short_sorted}
use Rattle.pol_automaton.proofs.arranging.arrange.Goals as goal

pub returns-then-len-lt2-clause-sorted : goal.returns-then-len-lt2-clause-sorted
returns-then-len-lt2-clause-sorted c = short_sorted c.args.items.now.items (omega (arith, c.if-len-lt2.true, c.len.ensures))

pub returns-clause-sorted : goal.returns-clause-sorted
returns-clause-sorted c = rw (dedup_is same_item _ _ c.dedup.ensures.filtered) (IsStrictlySortedBy-dedup order_total same_ties _ c.sort_unstable.ensures.sorted)

pub returns-clause-members : goal.returns-clause-members
returns-clause-members c =
    let is = dedup_is same_item _ _ c.dedup.ensures.filtered in
    let moved = c.sort_unstable.ensures.permutation in
    λ x. (
      λ h. Contains-permutation _ _ x (IsPermutation-sym _ _ moved) (Contains-from_dedup same_item _ x (rw is at h)),
      λ h. rw is (Contains-dedup same_equiv same_is _ x (Contains-permutation _ _ x moved h)),
    )
