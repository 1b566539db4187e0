use Rattle.std.proofs.Common.{arith}
use Rattle.tac_tally.proofs.Beside.{length-beside}
use Rattle.tac_tally.proofs.book.Book.forgotten.Goals as goal

pub returns-clause-within : goal.returns-clause-within
returns-clause-within c =
    let book = c.self.inside in
    let many = length-beside book.records.items book.marks.items c.self.invariant.0 in
    rw (← c.self.view_is) (omega (arith, many, c.self.invariant.3))
