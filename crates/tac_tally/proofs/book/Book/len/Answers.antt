use Rattle.std.proofs.Common.{sym, ◌∙◌}
use Rattle.tac_tally.proofs.Beside.{length-beside}
use Rattle.tac_tally.proofs.book.Book.len.Goals as goal

pub returns-clause-many : goal.returns-clause-many
returns-clause-many c =
    let book = c.self.inside in
    c.len.ensures ∙ book.records.ok.0 ∙ rw (← c.self.view_is) (sym (length-beside book.records.items book.marks.items c.self.invariant.0))
