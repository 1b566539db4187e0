use Rattle.std.proofs.Common.{◌≡◌, ◌<◌, List, Option, Some, length, get_or, slice_get, refl, sym, ap, ◌∙◌, arith, add-one}
use Rattle.std.proofs.lemmas.List.{length_push}
use Rattle.std.proofs.lemmas.Option.{slice_get_read, slice_get_within}
use Rattle.pol_automaton.specs.Automaton.{Automaton}
use Rattle.pol_text.specs.declared.subject.Subject.{Subject}
use Rattle.pol_live.specs.Renewing.{IsKept, renews_own}
use Rattle.pol_live.proofs.SlotFacts.{more_each}
use Rattle.pol_live.proofs.reusing.kept_owns.Goals as goal

pub loop-subject-preserved : goal.loop-subject-preserved
loop-subject-preserved c =
    let after = c.args.after.now in
    let i = c.loop-subject.subject-index in
    let subject = c.subject-item.result in
    let lt : i < length after = rw (← c.loop-subject.invariant.same) c.loop-subject-test.true in
    let at : get_or after i subject ≡ subject = rw (← c.loop-subject.invariant.same) (sym c.subject-item.is) in
    let here : slice_get after i ≡ Some subject = slice_get_read after (length after) i subject refl lt (sym at) in
    let many = c.loop-subject.invariant.many in
    let long = length_push c.loop-subject.kept c.in_ok-own.own in
    let kept : IsKept (renews_own c.args.touched.now subject) c.args.before.now c.args.owns.now subject c.in_ok-own.own = rw (← c.renews_own.ensures) c.in_ok-own.ensures in
    record {
      many = ap (λ (xs : List (Option Automaton)). length xs) c.in_ok-push.ensures.ok ∙ omega arith;
      each = rw (add-one, c.in_ok-push.ensures.ok) (more_each (λ s o. IsKept (renews_own c.args.touched.now s) c.args.before.now c.args.owns.now s o) after c.loop-subject.kept c.in_ok-own.own i subject many here kept
          (λ k s below its. c.loop-subject.invariant.each k s below its));
      same = c.loop-subject.invariant.same;
    }

pub returns-clause-kept : goal.returns-clause-kept
returns-clause-kept c =
    let same : length c.subjects-subject-items.result.now ≡ length c.args.after.now = ap (λ (xs : List Subject). length xs) c.loop-subject.invariant.same in
    let upper = c.loop-subject.auto.subject-index-end in
    let lower = c.loop-subject-test.false in
    let all : c.loop-subject.subject-index ≡ length c.args.after.now = omega arith in
    (c.loop-subject.invariant.many ∙ all, λ k s here. let within = slice_get_within c.args.after.now k s here in c.loop-subject.invariant.each k s (omega arith) here)
