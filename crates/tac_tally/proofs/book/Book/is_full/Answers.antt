use Rattle.std.proofs.Common.{◌∙◌, sym, arith, ap}
use Rattle.tac_tally.specs.Keeping.{is_full}
use Rattle.tac_tally.proofs.Beside.{length-beside}
use Rattle.tac_tally.proofs.book.Book.is_full.Goals as goal

pub is_full-requires : goal.is_full-requires
is_full-requires c =
    let book = c.self.inside in
    omega (arith, c.len.ensures, book.records.ok.0, c.self.invariant.3)

pub returns : goal.returns
returns c =
    let book = c.self.inside in
    let many = length-beside book.records.items book.marks.items c.self.invariant.0 in
    let len = c.len.ensures ∙ book.records.ok.0 ∙ sym many in
    let same = c.is_full.ensures ∙ ap (is_full book.limit book.forgotten) len in
    rw (← c.self.view_is) (λ full. sym same ∙ full, λ full. same ∙ full)
