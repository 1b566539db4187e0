use Rattle.std.specs.List.Sorted.{IsStrictlyIncreasing}
use Rattle.std.proofs.lemmas.List.Filters.{dedup_is}
use Rattle.std.proofs.lemmas.List.Kept.{Contains-dedup_nat, Contains-from_dedup}
use Rattle.std.proofs.lemmas.List.Sorted.{Contains-permutation, IsPermutation-sym}
use Rattle.std.proofs.lemmas.Map.Keys.{IsStrictlyIncreasing-dedup}
use Rattle.pol_deriv.proofs.term_set.arrange.Goals as goal
use Rattle.pol_deriv.proofs.term_set.arrange.Goals.{After-dedup}

sorted : (c : After-dedup) → IsStrictlyIncreasing c.dedup.new.self.items
sorted c = rw (dedup_is _ _ _ c.dedup.ensures.filtered) (IsStrictlyIncreasing-dedup _ c.sort_unstable.ensures.sorted)

pub returns-clause-sorted : goal.returns-clause-sorted
returns-clause-sorted c = sorted c

pub returns-clause-members : goal.returns-clause-members
returns-clause-members c =
    let is = dedup_is _ _ _ c.dedup.ensures.filtered in
    let moved = c.sort_unstable.ensures.permutation in
    λ n. (
      λ h. Contains-permutation _ _ n (IsPermutation-sym _ _ moved) (Contains-from_dedup _ _ n (rw is at h)),
      λ h. rw is (Contains-dedup_nat _ n (Contains-permutation _ _ n moved h)),
    )
