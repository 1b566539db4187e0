-- One step along a chain.
use Rattle.std.proofs.Common.{◌≡◌, ◌+◌, ◌-◌, ◌<◌, ◌≤◌, ℕ, Option, zero, suc, List, false, ◌||◌, Some, None, refl, ap, arith}
use Rattle.pol_names.specs.SubjectId.{same_id, group_id}
use Rattle.pol_names.specs.declared.subject_id.SubjectId.{SubjectId}
use Rattle.pol_faults.specs.Chains.{comes_to, parent_of}
use Rattle.pol_faults.specs.declared.chains.Heading.{Heading}

-- without a parent no step is taken
pub without_parent : (most : ℕ) (headings : List Heading) (goal : SubjectId) → comes_to most headings goal None ≡ false
unfolding comes_to
without_parent zero headings goal = refl
without_parent (suc most) headings goal = refl

pub one_step : (most done : ℕ) (headings : List Heading) (goal : SubjectId) (name : List ℕ) → done < most
    → comes_to (most - done) headings goal (Some name) ≡ (same_id (group_id name) goal || comes_to (most - (done + 1)) headings goal (parent_of headings name))
unfolding comes_to
one_step most done headings goal name lt =
    let left : most - done ≡ suc (most - (done + 1)) = omega arith in
    ap (λ (n : ℕ). comes_to n headings goal (Some name)) left

-- no steps
pub no_steps : (most done : ℕ) (headings : List Heading) (goal : SubjectId) (parent : Option (List ℕ)) → most ≤ done → comes_to (most - done) headings goal parent ≡ false
unfolding comes_to
no_steps most done headings goal parent le =
    let none_left : most - done ≡ 0 = omega arith in
    ap (λ (n : ℕ). comes_to n headings goal parent) none_left
