use Rattle.std.proofs.Common.{◌≡◌, ◌<◌, ◌≤◌, ◌+◌, ℕ, Bool, None, Some, ◌∷◌, ◌++◌, [], List, length, drop, refl, ap, sym, ◌∙◌, arith, length-drop, length-append}
use Rattle.pol_pattern.specs.Flat.{Class}
use Rattle.pol_pattern.specs.Reading.{item_at, is_among, items_from, class_at, class_of_items}
use Rattle.pol_pattern.proofs.Items.{class_at_is, start_within, with_no_items, classed, rest_is, item_read, item_refused, class_closed, class_unclosed, one_item_more, class_of_read}
use Rattle.pol_pattern.proofs.lexing.read_class.Goals as goal
use Rattle.pol_pattern.proofs.lexing.read_class.Goals.{then-negated, else-negated}

pub items-init : goal.items-init
items-init c = record {
  items = [];
  named = c.none-named.ensures;
  after = omega arith;
  within = start_within c.args.bytes.now c.is_negated-negated.result c.from-start.result c.is_negated-negated.ensures c.from-start.ensures;
  first = λ _. refl;
  later = λ lt. absurd (omega arith);
  so_far = with_no_items _;
}

pub returns-then-place-start-clause-exact : goal.returns-then-place-start-clause-exact
returns-then-place-start-clause-exact c =
    let inv = c.items.invariant in
    let whole = items_from c.from-start.result 0 (drop c.from-start.result c.args.bytes.now) in
    sym (class_at_is c.args.bytes.now c.is_negated-negated.result c.from-start.result c.is_negated-negated.ensures c.from-start.ensures
    ∙ ap (classed c.is_negated-negated.result) (class_closed inv.items c.items.place c.args.bytes.now whole c.items-test.true c.if-bytes-place-eq93.true inv.so_far)
    ∙ ap (λ (l : List (ℕ × ℕ)). classed c.is_negated-negated.result (Some (l, c.items.place + 1))) (inv.first c.if-place-start.true))

pub returns-then-bytes-place-eq93-clause-exact : goal.returns-then-bytes-place-eq93-clause-exact
returns-then-bytes-place-eq93-clause-exact c =
    let inv = c.items.invariant in
    let whole = items_from c.from-start.result 0 (drop c.from-start.result c.args.bytes.now) in
    let end = c.items.place + 1 in
    let some : 0 < length inv.items = inv.later (omega (arith, inv.after, c.if-place-start.false)) in
    let found : class_at c.args.bytes.now ≡ Some (class_of_items c.is_negated-negated.result inv.items, end) =
    class_at_is c.args.bytes.now c.is_negated-negated.result c.from-start.result c.is_negated-negated.ensures c.from-start.ensures
    ∙ ap (classed c.is_negated-negated.result) (class_closed inv.items c.items.place c.args.bytes.now whole c.items-test.true c.if-bytes-place-eq93.true inv.so_far)
    ∙ class_of_read c.is_negated-negated.result inv.items end some in
    sym (found ∙ elim c.if-negated.branch [
      | then-negated w ↦ ap (λ (b : Bool). Some (class_of_items b inv.items, end)) w.if-negated.true ∙ ap (λ (k : Class). Some (k, end)) (sym (w.class-is ∙ w.complement-class.ensures (is_among inv.items) inv.named))
      | else-negated w ↦ ap (λ (b : Bool). Some (class_of_items b inv.items, end)) w.if-negated.false ∙ ap (λ (k : Class). Some (k, end)) (sym (w.class-is ∙ inv.named))
    ])

pub returns-in_err-first-clause-exact : goal.returns-in_err-first-clause-exact
returns-in_err-first-clause-exact c =
    let inv = c.items.invariant in
    let whole = items_from c.from-start.result 0 (drop c.from-start.result c.args.bytes.now) in
    let bad : item_at (drop c.items.place c.args.bytes.now) ≡ None = ap item_at (sym (rest_is c.args.bytes.now c.items.place)) ∙ sym c.in_err-first.ensures.exact in
    c.from_residual.ensures ∙ sym (class_at_is c.args.bytes.now c.is_negated-negated.result c.from-start.result c.is_negated-negated.ensures c.from-start.ensures
    ∙ ap (classed c.is_negated-negated.result) (item_refused inv.items c.items.place c.args.bytes.now whole c.items-test.true c.if-bytes-place-eq93.false bad inv.so_far))

pub items-preserved : goal.items-preserved
items-preserved c =
    let inv = c.items.invariant in
    let item : ℕ × ℕ = (c.in_ok-first.first, c.in_ok-first.last) in
    let size = c.in_ok-first.size in
    let whole = items_from c.from-start.result 0 (drop c.from-start.result c.args.bytes.now) in
    let within : size ≤ length (drop c.items.place c.args.bytes.now) = rw (rest_is c.args.bytes.now c.items.place) at c.in_ok-first.ensures.within.1 in
    let good : item_at (drop c.items.place c.args.bytes.now) ≡ Some (item, size) = ap item_at (sym (rest_is c.args.bytes.now c.items.place)) ∙ sym c.in_ok-first.ensures.exact in
    record {
      items = inv.items ++ item ∷ [];
      named = one_item_more c.with_range-named.result inv.items c.in_ok-first.first c.in_ok-first.last (c.with_range-named.ensures (is_among inv.items) inv.named);
      after = omega (arith, inv.after);
      within = omega (arith, within, length-drop c.items.place c.args.bytes.now);
      first = λ is. absurd (omega (arith, inv.after, c.in_ok-first.ensures.within.0));
      later = λ lt. omega (arith, length-append inv.items (item ∷ []));
      so_far = item_read inv.items c.items.place c.args.bytes.now item size whole c.items-test.true c.if-bytes-place-eq93.false c.in_ok-first.ensures.within.0 good inv.so_far;
    }

pub returns-clause-exact : goal.returns-clause-exact
returns-clause-exact c =
    let inv = c.items.invariant in
    let whole = items_from c.from-start.result 0 (drop c.from-start.result c.args.bytes.now) in
    sym (class_at_is c.args.bytes.now c.is_negated-negated.result c.from-start.result c.is_negated-negated.ensures c.from-start.ensures
    ∙ ap (classed c.is_negated-negated.result) (class_unclosed inv.items c.items.place c.args.bytes.now whole c.items-test.false inv.so_far))
