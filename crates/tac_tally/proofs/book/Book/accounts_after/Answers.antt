use Rattle.std.proofs.Common.{◌≡◌, [], ◌∷◌, ◌++◌, length, drop, ap, subst, ◌∙◌, arith}
use Rattle.tac_tally.specs.Book.{Entry, beside}
use Rattle.tac_tally.specs.Accounts.{Run}
use Rattle.tac_tally.proofs.Beside.{length-beside, beside-drop, length-left}
use Rattle.tac_tally.proofs.book.Book.accounts_after.Goals as goal

pub split_at-requires : goal.split_at-requires
split_at-requires c =
    let book = c.self.inside in
    let many = length-beside book.records.items book.marks.items c.self.invariant.0 in
    let there = rw (← c.self.view_is) at c.requires in
    omega (arith, many, there, ap length c.as_slice.ensures.value)

pub split_at-requires-2 : goal.split_at-requires-2
split_at-requires-2 c =
    let book = c.self.inside in
    let many = length-beside book.records.items book.marks.items c.self.invariant.0 in
    let there = rw (← c.self.view_is) at c.requires in
    omega (arith, many, there, c.self.invariant.0, ap length c.as_slice-2.ensures.value)

pub of-requires : goal.of-requires
of-requires c =
    let book = c.self.inside in
    rw (c.split_at.ensures.back, c.split_at-2.ensures.back, c.as_slice.ensures.value, c.as_slice-2.ensures.value)
    (length-left c.args.gone book.records.items book.marks.items c.self.invariant.0)

pub enter-requires : goal.enter-requires
enter-requires c =
    let rs = c.split_at.result.1.now in
    let ms = c.split_at-2.result.1.now in
    let book = c.self.inside in
    let as_many : length ms ≡ length rs = rw (c.split_at.ensures.back, c.split_at-2.ensures.back, c.as_slice.ensures.value, c.as_slice-2.ensures.value)
    (length-left c.args.gone book.records.items book.marks.items c.self.invariant.0) in
    (beside rs ms, c.in_ok-accounts.ensures, length-beside rs ms as_many)

pub returns : goal.returns
returns c =
    let book = c.self.inside in
    let rs = c.split_at.result.1.now in
    let ms = c.split_at-2.result.1.now in
    let entry : Entry = record { item = c.args.record.now; denied = c.args.denied } in
    let records = c.split_at.ensures.back ∙ ap (drop c.args.gone) c.as_slice.ensures.value in
    let marks = c.split_at-2.ensures.back ∙ ap (drop c.args.gone) c.as_slice-2.ensures.value in
    let kept : beside rs ms ≡ drop c.args.gone (beside book.records.items book.marks.items) =
    ap (λ l. beside l ms) records ∙ ap (beside (drop c.args.gone book.records.items)) marks ∙ beside-drop c.args.gone book.records.items book.marks.items in
    let as_many : length ms ≡ length rs = rw (records, marks) (length-left c.args.gone book.records.items book.marks.items c.self.invariant.0) in
    let entered = c.in_ok-enter.ensures.ok (beside rs ms) (length-beside rs ms as_many) c.in_ok-accounts.ensures in
    rw (← c.self.view_is) (subst (λ l. Run (l ++ entry ∷ []) c.enter.new.self) kept entered)
