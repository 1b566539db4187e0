use Rattle.std.proofs.Common.{◌≡◌, ◌≤◌, ◌+◌, [], ◌∷◌, ◌++◌, length, drop, sym, ap, subst, ◌∙◌, arith}
use Rattle.std.proofs.lemmas.List.{length-drop, length_push}
use Rattle.tac_tally.specs.Book.{Entry, beside}
use Rattle.tac_tally.specs.Accounts.{Run}
use Rattle.tac_tally.proofs.Beside.{length-beside, beside-drop, beside-push, length-left}
use Rattle.tac_tally.proofs.KeepingFacts.{goes_within, has_number, stored_after}
use Rattle.tac_tally.proofs.book.Book.append_after.Goals as goal

pub drain-requires-clause-in_bounds : goal.drain-requires-clause-in_bounds
drain-requires-clause-in_bounds c =
    let book = c.self.inside in
    let many = length-beside book.records.items book.marks.items c.self.invariant.0 in
    let go = rw (← c.self.view_is) at c.requires.go in
    omega (arith, many, go, goes_within book.limit (length (beside book.records.items book.marks.items)), book.records.ok.0)

pub drain-requires-2-clause-in_bounds : goal.drain-requires-2-clause-in_bounds
drain-requires-2-clause-in_bounds c =
    let book = c.self.inside in
    let many = length-beside book.records.items book.marks.items c.self.invariant.0 in
    let go = rw (← c.self.view_is) at c.requires.go in
    omega (arith, many, go, goes_within book.limit (length (beside book.records.items book.marks.items)), book.marks.ok.0, c.self.invariant.0)

pub overflow_add-self : goal.overflow_add-self
overflow_add-self c =
    let book = c.self.inside in
    let many = length-beside book.records.items book.marks.items c.self.invariant.0 in
    let go = rw (← c.self.view_is) at c.requires.go in
    omega (arith, many, go, goes_within book.limit (length (beside book.records.items book.marks.items)), c.self.invariant.3)

pub invariant_of-self : goal.invariant_of-self
invariant_of-self c =
    let book = c.self.inside in
    let rs = book.records.items in
    let ms = book.marks.items in
    let gone = c.args.gone in
    let entries = beside rs ms in
    let entry : Entry = record { item = c.args.record; denied = c.args.denied } in
    let many = length-beside rs ms c.self.invariant.0 in
    let not_full = rw (← c.self.view_is) at c.requires.room in
    let go = rw (← c.self.view_is) at c.requires.go in
    let there : gone ≤ length rs = omega (arith, many, go, goes_within book.limit (length entries)) in
    let records : c.push_reserved.new.self.items ≡ drop gone rs ++ c.args.record ∷ [] = c.push_reserved.ensures.items ∙ ap (λ l. l ++ c.args.record ∷ []) (c.drop.ensures.items ∙ c.drain.ensures.kept) in
    let marks : c.push_reserved-2.new.self.items ≡ drop gone ms ++ c.args.denied ∷ [] = c.push_reserved-2.ensures.items ∙ ap (λ l. l ++ c.args.denied ∷ []) (c.drop-2.ensures.items ∙ c.drain-2.ensures.kept) in
    let as_many = length-left gone rs ms c.self.invariant.0 in
    let left = length-drop gone rs in
    let number = has_number book.limit book.forgotten (length entries) not_full (omega (arith, many, c.self.invariant.3)) in
    let run : Run (drop gone entries ++ entry ∷ []) c.in_ok-accounts.accounts = rw (← c.self.view_is) at c.in_ok-accounts.ensures in
    let same : beside (drop gone rs ++ c.args.record ∷ []) (drop gone ms ++ c.args.denied ∷ []) ≡ drop gone entries ++ entry ∷ [] =
    beside-push (drop gone rs) (drop gone ms) c.args.record c.args.denied as_many ∙ ap (λ l. l ++ entry ∷ []) (beside-drop gone rs ms) in
    rw (records, marks) (
      length_push (drop gone ms) c.args.denied ∙ ap (λ n. n + 1) as_many ∙ sym (length_push (drop gone rs) c.args.record),
      rw (length_push (drop gone rs) c.args.record) (omega (arith, left, there, c.requires.some, c.self.invariant.1)),
      subst (λ l. Run l c.in_ok-accounts.accounts) (sym same) run,
      rw (length_push (drop gone rs) c.args.record) (omega (arith, left, there, many, number)),
    )

pub returns-clause-ok : goal.returns-clause-ok
returns-clause-ok c =
    let book = c.self.inside in
    let rs = book.records.items in
    let ms = book.marks.items in
    let gone = c.args.gone in
    let entry : Entry = record { item = c.args.record; denied = c.args.denied } in
    let go = rw (← c.self.view_is) at c.requires.go in
    let records : c.push_reserved.new.self.items ≡ drop gone rs ++ c.args.record ∷ [] = c.push_reserved.ensures.items ∙ ap (λ l. l ++ c.args.record ∷ []) (c.drop.ensures.items ∙ c.drain.ensures.kept) in
    let marks : c.push_reserved-2.new.self.items ≡ drop gone ms ++ c.args.denied ∷ [] = c.push_reserved-2.ensures.items ∙ ap (λ l. l ++ c.args.denied ∷ []) (c.drop-2.ensures.items ∙ c.drain-2.ensures.kept) in
    let as_many = length-left gone rs ms c.self.invariant.0 in
    let same = beside-push (drop gone rs) (drop gone ms) c.args.record c.args.denied as_many ∙ ap (λ l. l ++ entry ∷ []) (beside-drop gone rs ms) in
    rw (← c.self.view_is, records, marks) (stored_after book.limit book.forgotten (beside rs ms) entry _ gone go same)
