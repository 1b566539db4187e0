use Rattle.std.proofs.Common.{◌≡◌, ◌<◌, Some, length, get_or, slice_get, refl, sym, ◌∙◌}
use Rattle.std.proofs.lemmas.Option.{slice_get_read}
use Rattle.pol_live.proofs.StayingFacts.{has_rules_still}
use Rattle.pol_live.proofs.staying.sharing.Goals as goal

pub take_rules-requires-clause-well_formed : goal.take_rules-requires-clause-well_formed
take_rules-requires-clause-well_formed c = rw c.loop-was.invariant c.requires.well_formed

pub take_rules-requires-clause-same : goal.take_rules-requires-clause-same
take_rules-requires-clause-same c =
    let before = c.args.before.now in
    let i = c.loop-was.was-index in
    let was = c.was-item.result in
    let same = c.subjects-was-items.ensures.subjects in
    let lt : i < length before = rw (← same) c.loop-was-test.true in
    let at : get_or before i was ≡ was = rw (← same) (sym c.was-item.is) in
    let here : slice_get before i ≡ Some was = slice_get_read before (length before) i was refl lt (sym at) in
    rw c.loop-was.invariant (has_rules_still c.args.touched.now before c.args.policy i was c.requires.alike c.subjects-was-items.ensures.well_formed.distinct here
    (rw c.loop-was.invariant at (sym c.has_still.ensures ∙ c.if-has_still.true)))
