use Rattle.std.proofs.Common.{◌≡◌, ◌<◌, ◌≤◌, ℕ, length, get_or, take, sym, subst, ◌∙◌, arith, add-one, true≢false, rules}
use Rattle.std.proofs.lemmas.Option.{slice_get_within, get_or_from_slice_get}
use Rattle.pol_meaning.specs.Sizes.{AreSmall, IsLarge}
use Rattle.pol_live.proofs.BuildFacts.{first_large, more_small, not_before}
use Rattle.pol_live.proofs.sizing.first_large.Goals as goal
use Rattle.pol_text.specs.Policy.{max_subjects}

pub returns-then-branch : goal.returns-then-branch
returns-then-branch c =
    let policy = c.args.policy.now in
    let i = c.loop-at.at in
    let within = slice_get_within policy c.args.large c.requires.large.0 c.requires.large.1 in
    let lt : i < length policy = omega arith in
    let subject = c.index-subjects-at.result in
    let at : get_or policy i subject ≡ subject = rw (← c.subjects-subjects.ensures.subjects) (sym c.index-subjects-at.is) in
    rw c.id.ensures (first_large policy policy i subject lt at c.loop-at.invariant.small (c.in_ok-is_large_at.ensures.large.0 c.if-branch.true))

pub loop-at-preserved : goal.loop-at-preserved
loop-at-preserved c =
    let policy = c.args.policy.now in
    let i = c.loop-at.at in
    let within = slice_get_within policy c.args.large c.requires.large.0 c.requires.large.1 in
    let lt : i < length policy = omega arith in
    let subject = c.index-subjects-at.result in
    let at : get_or policy i subject ≡ subject = rw (← c.subjects-subjects.ensures.subjects) (sym c.index-subjects-at.is) in
    record {
      small = rw add-one (more_small policy policy i subject lt at c.loop-at.invariant.small (λ more. true≢false (sym (c.in_ok-is_large_at.ensures.large.1 more) ∙ c.if-branch.false)));
      right = c.in_ok-is_large_at.ensures.right;
    }

pub bounds-subjects-large : goal.bounds-subjects-large
bounds-subjects-large c =
    rw c.subjects-subjects.ensures.subjects (slice_get_within c.args.policy.now c.args.large c.requires.large.0 c.requires.large.1)

pub offset_bounds-subjects-large : goal.offset_bounds-subjects-large
offset_bounds-subjects-large c =
    let within = slice_get_within c.args.policy.now c.args.large c.requires.large.0 c.requires.large.1 in
    let few : length c.args.policy.now ≤ max_subjects = c.subjects-subjects.ensures.well_formed.few in
    let below : c.args.large < max_subjects = omega arith in
    search rules

pub returns : goal.returns
returns c =
    let policy = c.args.policy.now in
    let i = c.loop-at.at in
    let large = c.requires.large in
    let past : c.args.large ≤ i = c.loop-at-test.false in
    let same : i ≡ c.args.large = let before = not_before policy policy i c.args.large large.0 c.loop-at.invariant.small large.1 large.2 in omega arith in
    let subject = c.index-subjects-large.result in
    let its : large.0 ≡ subject = sym (get_or_from_slice_get policy c.args.large large.0 subject large.1) ∙ rw (← c.subjects-subjects.ensures.subjects) (sym c.index-subjects-large.is) in
    let at : get_or policy c.args.large subject ≡ subject = rw (← c.subjects-subjects.ensures.subjects) (sym c.index-subjects-large.is) in
    let small = subst (λ (n : ℕ). AreSmall policy (take n policy)) same c.loop-at.invariant.small in
    rw c.id-2.ensures (first_large policy policy c.args.large subject (slice_get_within policy c.args.large large.0 large.1) at small (subst (IsLarge policy) its large.2))
