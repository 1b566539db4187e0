use Rattle.std.proofs.Common.{take, refl, sym, subst, ◌∙◌, arith}
use Rattle.std.proofs.lemmas.List.{length-take-le}
use Rattle.tac_tally.specs.Book.{beside}
use Rattle.tac_tally.specs.Accounts.{Run}
use Rattle.tac_tally.proofs.Beside.{length-beside, beside-take}
use Rattle.tac_tally.proofs.accounts.Accounts.of.Goals as goal

pub enter-requires : goal.enter-requires
enter-requires c =
    let rs = c.args.records.now in
    let ms = c.args.marks.now in
    let place = c.records.place in
    let there = length-take-le place rs (omega (arith, c.records-test.true)) in
    let marked = length-take-le place ms (omega (arith, c.records-test.true, c.requires)) in
    (beside (take place rs) (take place ms), c.records.invariant, length-beside (take place rs) (take place ms) (marked ∙ sym there) ∙ there)

pub records-preserved : goal.records-preserved
records-preserved c =
    let rs = c.args.records.now in
    let ms = c.args.marks.now in
    let place = c.records.place in
    let there = length-take-le place rs (omega (arith, c.records-test.true)) in
    let marked = length-take-le place ms (omega (arith, c.records-test.true, c.requires)) in
    let many = length-beside (take place rs) (take place ms) (marked ∙ sym there) ∙ there in
    let entered = c.in_ok-enter.ensures.ok (beside (take place rs) (take place ms)) many c.records.invariant in
    subst (λ l. Run l c.enter.new.self) (sym (beside-take rs ms place _ _ _ _ c.records-test.true c.requires c.index-records-place.is refl)) entered
