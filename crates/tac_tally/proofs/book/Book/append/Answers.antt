use Rattle.std.proofs.Common.{◌≡◌, ◌≤◌, ◌+◌, [], ◌∷◌, ◌++◌, length, sym, ap, subst, ◌∙◌, arith}
use Rattle.std.proofs.lemmas.List.{length_push}
use Rattle.tac_tally.specs.Book.{Entry, beside}
use Rattle.tac_tally.specs.Keeping.{last_number}
use Rattle.tac_tally.specs.Accounts.{Run}
use Rattle.tac_tally.proofs.Beside.{length-beside, beside-push}
use Rattle.tac_tally.proofs.KeepingFacts.{has_room, has_number, stored_all}
use Rattle.tac_tally.proofs.book.Book.append.Goals as goal

pub enter-requires : goal.enter-requires
enter-requires c =
    let book = c.self.inside in
    let many = length-beside book.records.items book.marks.items c.self.invariant.0 in
    let len : c.len.result ≡ length book.records.items = omega (arith, c.len.ensures, c.in_ok-reserve.ensures.len, book.records.ok.0) in
    (beside book.records.items book.marks.items, c.self.invariant.2, many ∙ sym len)

pub invariant_of-self-in_err-enter : goal.invariant_of-self-in_err-enter
invariant_of-self-in_err-enter c =
    let book = c.self.inside in
    let entries = beside book.records.items book.marks.items in
    rw (c.in_ok-reserve.ensures.items, c.in_ok-reserve-2.ensures.items)
    (c.self.invariant.0, c.self.invariant.1, c.in_err-enter.ensures.err entries c.self.invariant.2, c.self.invariant.3)

pub invariant_of-self-2 : goal.invariant_of-self-2
invariant_of-self-2 c =
    let book = c.self.inside in
    let rs = book.records.items in
    let ms = book.marks.items in
    let entries = beside rs ms in
    let entry : Entry = record { item = c.args.record; denied = c.args.denied } in
    let many = length-beside rs ms c.self.invariant.0 in
    let not_full = rw (← c.self.view_is) at c.requires.room in
    let stay = rw (← c.self.view_is) at c.requires.stay in
    let within : length entries ≤ book.limit.most = omega (arith, many, c.self.invariant.1) in
    let fits : book.forgotten + length entries ≤ last_number = omega (arith, many, c.self.invariant.3) in
    let room = has_room book.limit book.forgotten (length entries) not_full stay within in
    let number = has_number book.limit book.forgotten (length entries) not_full fits in
    let records : c.push_reserved.new.self.items ≡ rs ++ c.args.record ∷ [] = c.push_reserved.ensures.items ∙ ap (λ l. l ++ c.args.record ∷ []) c.in_ok-reserve.ensures.items in
    let marks : c.push_reserved-2.new.self.items ≡ ms ++ c.args.denied ∷ [] = c.push_reserved-2.ensures.items ∙ ap (λ l. l ++ c.args.denied ∷ []) c.in_ok-reserve-2.ensures.items in
    let len : c.len.result ≡ length rs = omega (arith, c.len.ensures, c.in_ok-reserve.ensures.len, book.records.ok.0) in
    let runs : Run (entries ++ entry ∷ []) c.enter.new.self = c.in_ok-enter.ensures.ok entries (many ∙ sym len) c.self.invariant.2 in
    let more : length rs + 1 ≤ book.limit.most = omega (arith, many, room) in
    let numbers : book.forgotten + (length rs + 1) ≤ last_number = omega (arith, many, number) in
    rw (records, marks) (
      length_push ms c.args.denied ∙ ap (λ n. n + 1) c.self.invariant.0 ∙ sym (length_push rs c.args.record),
      rw (length_push rs c.args.record) more,
      subst (λ l. Run l c.enter.new.self) (sym (beside-push rs ms c.args.record c.args.denied c.self.invariant.0)) runs,
      rw (length_push rs c.args.record) numbers,
    )

pub returns-clause-ok : goal.returns-clause-ok
returns-clause-ok c =
    let book = c.self.inside in
    let rs = book.records.items in
    let ms = book.marks.items in
    let entries = beside rs ms in
    let entry : Entry = record { item = c.args.record; denied = c.args.denied } in
    let records : c.push_reserved.new.self.items ≡ rs ++ c.args.record ∷ [] = c.push_reserved.ensures.items ∙ ap (λ l. l ++ c.args.record ∷ []) c.in_ok-reserve.ensures.items in
    let marks : c.push_reserved-2.new.self.items ≡ ms ++ c.args.denied ∷ [] = c.push_reserved-2.ensures.items ∙ ap (λ l. l ++ c.args.denied ∷ []) c.in_ok-reserve-2.ensures.items in
    let stay = rw (← c.self.view_is) at c.requires.stay in
    let pushed = beside-push rs ms c.args.record c.args.denied c.self.invariant.0 in
    rw (← c.self.view_is, records, marks) (stored_all book.limit book.forgotten entries entry (beside (rs ++ c.args.record ∷ []) (ms ++ c.args.denied ∷ [])) stay pushed)
