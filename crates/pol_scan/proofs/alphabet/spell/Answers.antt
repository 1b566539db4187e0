-- The next place still holds its column.
use Rattle.std.proofs.Common.{get_or, slice_index, arith}
use Rattle.std.proofs.lemmas.List.{get_or_default}
use Rattle.std.proofs.lemmas.List.Edits.{map_over_more}
use Rattle.pol_scan.proofs.AlphabetFacts.{next_place}
use Rattle.pol_scan.proofs.alphabet.spell.Goals as goal

pub bounds-least-place : goal.bounds-least-place
bounds-least-place c =
    let i = c.loop-place.place-index in
    omega (arith, next_place (slice_index c.args.least.now) c.args.word.now c.loop-place.word i c.loop-place-test.true c.loop-place.invariant, c.requires i 0 c.loop-place-test.true)

pub loop-place-preserved : goal.loop-place-preserved
loop-place-preserved c =
    let i = c.loop-place.place-index in
    let now = c.loop-place.word in
    map_over_more (slice_index c.args.least.now) c.args.word.now now i (get_or now i 0) c.loop-place-test.true c.loop-place.invariant
    (get_or_default now i 0 (get_or now i 0) (omega arith))
