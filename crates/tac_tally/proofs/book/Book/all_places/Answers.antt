use Rattle.std.proofs.Common.{◌≡◌, length, ltb, sym, ap, ◌∙◌, arith}
use Rattle.tac_tally.specs.Book.{beside}
use Rattle.tac_tally.proofs.Beside.{length-beside}
use Rattle.tac_tally.proofs.Places.{stands_at-all}
use Rattle.tac_tally.proofs.book.Book.all_places.Goals as goal

pub returns : goal.returns
returns c =
    let book = c.self.inside in
    let entries = beside book.records.items book.marks.items in
    let many = length-beside book.records.items book.marks.items c.self.invariant.0 in
    let end : c.places.place ≡ length entries = omega (arith, many, book.records.ok.0, c.len-place-end.ensures, c.places.invariant.1, c.places-test.false) in
    rw (← c.self.view_is) (λ place. c.places.invariant.0 place ∙ ap (ltb place) end ∙ sym (stands_at-all entries place))
