use Rattle.std.proofs.Common.{◌≡◌, ◌<◌, ◌-◌, true, Err, sym, ap, subst, ◌∙◌, arith}
use Rattle.std.proofs.lemmas.Option.{same_Some, slice_get-get_or}
use Rattle.std.proofs.lemmas.Result.{err_from_is_err_and}
use Rattle.pol_text.specs.declared.subject.Subject.{Subject}
use Rattle.pol_text.specs.Policy.{ends_within}
use Rattle.pol_live.specs.Counting.{Counts, states_of}
use Rattle.pol_live.specs.Refusing.{IsLargeAt}
use Rattle.pol_live.proofs.FillFacts.{ends_above}
use Rattle.pol_live.proofs.MeterFacts.{counts_none, counts_on}
use Rattle.pol_live.proofs.filling.+fill.Goals as goal
use Rattle.pol_live.proofs.filling.+fill.Goals.{in-Some-parent+in_ok-fill, in_default-parent}

pub overflow_sub-most : goal.overflow_sub-most
overflow_sub-most t c =
    let policy = c.args.policy.now in
    let subject = c.in-Some.subject.now in
    let there = slice_get-get_or policy c.in-Some-parent.parent subject c.in-Some-parent.ensures.within in
    (ends_above c.args.most policy subject _ (c.requires.ends subject (sym c.in-Some.ensures.found)) (c.in-Some-parent.ensures.found ∙ there)).0

pub fill-requires : goal.fill-requires
fill-requires t c =
    let policy = c.args.policy.now in
    let subject = c.in-Some.subject.now in
    let there = slice_get-get_or policy c.in-Some-parent.parent subject c.in-Some-parent.ensures.within in
    let ends = ends_above c.args.most policy subject _ (c.requires.ends subject (sym c.in-Some.ensures.found)) (c.in-Some-parent.ensures.found ∙ there) in
    let some = ends.0 in
    let less = c.decreases in
    let shorter : c.args.most - 1 < t = omega arith in
    (shorter, (c.in-Some-parent.ensures.within, (λ group its. subst (λ (g : Subject). ends_within (c.args.most - 1) policy g ≡ true) (same_Some _ group (sym there ∙ its)) ends.1, c.requires.right)))

pub fill_here-requires-clause-here : goal.fill_here-requires-clause-here
fill_here-requires-clause-here t c = sym c.in-Some.ensures.found

pub returns-in_err-fill-clause-too_many : goal.returns-in_err-fill-clause-too_many
returns-in_err-fill-clause-too_many t c at is =
    let p = err_from_is_err_and c.from_residual.result c.from_residual.ensures.1 in
    c.in_err-fill.ensures.too_many at (ap Err (sym p.2) ∙ sym p.1 ∙ is)

pub returns-in-Err-TooManyStates-clause-too_many : goal.returns-in-Err-TooManyStates-clause-too_many
returns-in-Err-TooManyStates-clause-too_many t c at is =
    let same : c.args.index ≡ at = cc in
    subst (IsLargeAt c.args.policy.now) same (c.in-Some.subject.now, sym c.in-Some.ensures.found, c.in-Err-TooManyStates.ensures.too_many (ap Err c.in-Err-TooManyStates.field-0-is))

pub returns-in-Ok-clause-counts : goal.returns-in-Ok-clause-counts
returns-in-Ok-clause-counts t c =
    let policy = c.args.policy.now in
    let first : Counts c.args.meter.now.total c.match-parent.meter.total (states_of policy c.args.parts.now) (states_of policy c.match-parent.parts) =
    elim c.match-parent.branch [ in-Some-parent+in_ok-fill w ↦ rw (w.parts-is, w.meter-is) w.in_ok-fill.ensures.counts | in_default-parent w ↦ rw (w.parts-is, w.meter-is) (counts_none c.args.meter.now.total (states_of policy c.args.parts.now)) ] in
    counts_on _ _ _ _ _ _ first c.in-Ok.ensures.counts
