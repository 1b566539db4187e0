use Rattle.std.proofs.Common.{sym, ap, ◌∙◌, length}
use Rattle.std.proofs.lemmas.Bool.{eqb-true, eq-eqb}
use Rattle.std.proofs.lemmas.List.{nil_from_length}
use Rattle.tac_tally.proofs.Beside.{length-beside}
use Rattle.tac_tally.proofs.book.Book.is_empty.Goals as goal

pub returns : goal.returns
returns c =
    let book = c.self.inside in
    let many = length-beside book.records.items book.marks.items c.self.invariant.0 in
    rw (← c.self.view_is, c.is_empty.ensures) (
      λ none. nil_from_length _ (many ∙ sym book.records.ok.0 ∙ eqb-true _ _ none),
      λ none. eq-eqb _ _ (book.records.ok.0 ∙ sym many ∙ ap length none),
    )
