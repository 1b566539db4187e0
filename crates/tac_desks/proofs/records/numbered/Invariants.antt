use Rattle.std.proofs.Common.{◌≡◌, ◌+◌, take}
use Rattle.tac_tally.specs.Book.{items}
use Rattle.tac_desk.specs.Reporting.{numbered_after}
use Rattle.tac_desks.proofs.records.numbered.Given as goal

-- the first records are copied, each with its number
abbrev pub invariant-records : goal.invariant-records
invariant-records l =
    (l.copies ≡ numbered_after l.book.forgotten (take l.record-index (items l.book.entries)))
    × (l.number ≡ l.book.forgotten + l.record-index)
