use Rattle.std.proofs.Common.{slice_index, arith}
use Rattle.pol_scan.specs.Alphabet.{Alphabet}
use Rattle.pol_scan.proofs.AlphabetFacts.{column_within, least_range}
use Rattle.pol_scan.proofs.alphabet.Alphabet.tells.Goals as goal

pub bounds-self-inside-self-inside : goal.bounds-self-inside-self-inside
bounds-self-inside-self-inside c =
    let a : Alphabet = record { width = c.self.inside.width; columns = c.self.inside.columns; least = c.self.inside.least } in
    omega (arith, column_within a c.self.invariant c.loop-place.place c.loop-place-test.true, c.self.invariant.few)

pub overflow_sub-least : goal.overflow_sub-least
overflow_sub-least c =
    let a : Alphabet = record { width = c.self.inside.width; columns = c.self.inside.columns; least = c.self.inside.least } in
    (least_range a c.self.invariant (slice_index a.columns c.loop-place.place) (column_within a c.self.invariant c.loop-place.place c.loop-place-test.true)).0

pub bounds-labels-least : goal.bounds-labels-least
bounds-labels-least c =
    let a : Alphabet = record { width = c.self.inside.width; columns = c.self.inside.columns; least = c.self.inside.least } in
    let range = least_range a c.self.invariant (slice_index a.columns c.loop-place.place) (column_within a c.self.invariant c.loop-place.place c.loop-place-test.true) in
    omega (arith, range.0, range.1)
