use Rattle.std.proofs.Common.{take, ◌<◌}
use Rattle.std.specs.List.{All}
use Rattle.tac_tally.proofs.Marks.{Marks}
use Rattle.tac_tally.proofs.book.Book.recount_at.Given as goal

-- the marks at the first places
abbrev pub invariant-places : goal.invariant-places
invariant-places g l =
    goal.F-IsAlwaysCallable g l.decide × Marks g.F.FnMut l.initial.decide l.decide l.self-inside.records.items (take l.place-index l.places) l.marks.items
    × All (λ mark. mark.place < l.self-inside.records.len) l.marks.items
