use Rattle.std.proofs.Common.{◌≡◌, ◌<◌, ℕ, List, Option, Some, length, get_or, slice_get, refl, sym, ap, ◌∙◌, arith, add-one}
use Rattle.std.specs.Option.{option_and_then}
use Rattle.std.proofs.lemmas.List.{length_push}
use Rattle.std.proofs.lemmas.Option.{slice_get_read, slice_get_within}
use Rattle.pol_text.specs.declared.subject.Subject.{Subject}
use Rattle.pol_text.specs.Policy.{parent_of}
use Rattle.pol_live.proofs.SlotFacts.{more_each}
use Rattle.pol_live.proofs.parents.parents_of.Goals as goal

pub loop-subject-preserved : goal.loop-subject-preserved
loop-subject-preserved c =
    let policy = c.args.policy.now in
    let i = c.loop-subject.subject-index in
    let subject = c.subject-item.result in
    let lt : i < length policy = rw (← c.loop-subject.invariant.same) c.loop-subject-test.true in
    let at : get_or policy i subject ≡ subject = rw (← c.loop-subject.invariant.same) (sym c.subject-item.is) in
    let here : slice_get policy i ≡ Some subject = slice_get_read policy (length policy) i subject refl lt (sym at) in
    let many = c.loop-subject.invariant.many in
    let long = length_push c.loop-subject.parents c.parent_index.result in
    record {
      many = ap (λ (xs : List (Option ℕ)). length xs) c.in_ok-push.ensures.ok ∙ omega arith;
      each = rw (add-one, c.in_ok-push.ensures.ok) (more_each (λ s o. option_and_then (slice_get policy) o ≡ parent_of policy s) policy c.loop-subject.parents c.parent_index.result i subject many here (sym c.parent_index.ensures.found)
          (λ k s below its. c.loop-subject.invariant.each k s below its));
      same = c.loop-subject.invariant.same;
    }

pub returns : goal.returns
returns c =
    let same : length c.subjects-subject-items.result.now ≡ length c.args.policy.now = ap (λ (xs : List Subject). length xs) c.loop-subject.invariant.same in
    let upper = c.loop-subject.auto.subject-index-end in
    let lower = c.loop-subject-test.false in
    let all : c.loop-subject.subject-index ≡ length c.args.policy.now = omega arith in
    λ k s here. let within = slice_get_within c.args.policy.now k s here in c.loop-subject.invariant.each k s (omega arith) here
