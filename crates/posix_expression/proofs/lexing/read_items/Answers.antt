use Rattle.std.proofs.Common.{◌≡◌, ℕ, ◌-◌, ◌+◌, false, List, length, sym, ap, ◌∙◌}
use Rattle.std.proofs.lemmas.Result.{err_from_is_err_and}
use Rattle.posix_expression.specs.Reading.{ends_class, items_within}
use Rattle.posix_expression.proofs.Steps.{given}
use Rattle.posix_expression.proofs.ItemSteps.{before_items, turn, ends_here, one_more, one_fails, at_end}
use Rattle.posix_expression.proofs.lexing.read_items.Goals as goal

pub returns-then-ends_class : goal.returns-then-ends_class
returns-then-ends_class c =
    let n = length c.args.text.now in
    ends_here c.items.items.items (n - (c.items._item + 1)) c.items.rest.now (items_within n c.args.text.now) (sym c.ends_class.ensures.exact ∙ c.if-ends_class.true)
    (turn c.items.items.items n c.items._item c.items.rest.now (items_within n c.args.text.now) c.items-test.true c.items.invariant)
    ∙ ap (λ (later : List ℕ). given (c.items.items.items, later)) (sym c.after_first.ensures)

pub returns-in_err-item : goal.returns-in_err-item
returns-in_err-item c =
    let p = err_from_is_err_and c.from_residual.result c.from_residual.ensures.1 in
    let n = length c.args.text.now in
    let none : ends_class c.items.rest.now ≡ false = sym c.ends_class.ensures.exact ∙ c.if-ends_class.false in
    rw (p.1, p.2)
    (one_fails c.items.items.items (n - (c.items._item + 1)) c.items.rest.now c.in_err-item.field-0.0 (items_within n c.args.text.now) none
    (turn c.items.items.items n c.items._item c.items.rest.now (items_within n c.args.text.now) c.items-test.true c.items.invariant) c.in_err-item.ensures)

pub items-preserved : goal.items-preserved
items-preserved c =
    let n = length c.args.text.now in
    let none : ends_class c.items.rest.now ≡ false = sym c.ends_class.ensures.exact ∙ c.if-ends_class.false in
    ap (λ items. before_items items (items_within (n - (c.items._item + 1)) c.in_ok-item.later.now)) c.in_ok-push.ensures.items
    ∙ one_more c.items.items.items (n - (c.items._item + 1)) c.items.rest.now c.in_ok-item.later.now c.in_ok-item.item (items_within n c.args.text.now) none
    (turn c.items.items.items n c.items._item c.items.rest.now (items_within n c.args.text.now) c.items-test.true c.items.invariant) c.in_ok-item.ensures

pub returns : goal.returns
returns c =
    let n = length c.args.text.now in
    at_end c.items.items.items n c.items._item c.items.rest.now (items_within n c.args.text.now) c.items-test.false c.items.invariant
