use Rattle.std.proofs.Common.{◌≡◌, take}
use Rattle.tac_tally.specs.Recount.{with_marks}
use Rattle.tac_tally.proofs.recount.put_marks.Given as goal

-- the first marks are put in
abbrev pub invariant-marks : goal.invariant-marks
invariant-marks l = l.book ≡ record l.fn.book { entries = with_marks (take l.mark-index l.marks) l.fn.book.entries }
