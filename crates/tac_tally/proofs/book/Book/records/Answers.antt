use Rattle.std.proofs.Common.{sym, ◌∙◌}
use Rattle.tac_tally.proofs.Beside.{items-beside}
use Rattle.tac_tally.proofs.book.Book.records.Goals as goal

pub returns : goal.returns
returns c = c.as_slice.ensures.value ∙ sym (rw (← c.self.view_is) (items-beside c.self.inside.records.items c.self.inside.marks.items c.self.invariant.0))
