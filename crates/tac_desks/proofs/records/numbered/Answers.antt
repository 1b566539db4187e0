use Rattle.std.proofs.Common.{◌≡◌, ◌+◌, take, [], ◌∷◌, ◌++◌, List, ap, sym, ◌∙◌, arith}
use Rattle.tac_tally.specs.Book.{items}
use Rattle.tac_desk.specs.Reporting.{numbered_after}
use Rattle.tac_desk.specs.declared.numbered.Numbered.{Numbered}
use Rattle.tac_desks.proofs.Keeping.{numbered_more}
use Rattle.tac_desks.proofs.records.numbered.Goals as goal

pub records-preserved : goal.records-preserved
records-preserved c =
    let book = c.args.book.now in
    let at = c.records.record-index in
    let item = c.in_ok-item.item in
    let first = numbered_after book.forgotten (take at (items book.entries)) in
    let number : c.records.number + 1 ≡ book.forgotten + (at + 1) = omega (arith, c.records.invariant.1) in
    let same = c.records-record-items.ensures in
    let within = rw same at c.records-test.true in
    let copied = rw same at (c.in_ok-item.ensures ∙ c.record-item.is) in
    let more = numbered_more book.forgotten (items book.entries) at item _ within copied in (
      c.in_ok-push.ensures.ok
          ∙ ap (λ (l : List Numbered). l ++ record { number = c.records.number + 1; item = item } ∷ []) c.records.invariant.0
          ∙ ap (λ n. first ++ record { number = n; item = item } ∷ []) number
          ∙ sym more,
      number,
    )
