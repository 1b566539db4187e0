use Rattle.std.proofs.Common.{◌≡◌, true, refl, sym, ◌∙◌, subst, true≢false}
use Rattle.std.specs.Prelude.{slice_index_or}
use Rattle.std.proofs.lemmas.List.{get_or_default}
use Rattle.pol_pattern.specs.Flat.{Term}
use Rattle.pol_residual.specs.Residuals.{any_text}
use Rattle.pol_deriv.specs.Table.{Means}
use Rattle.pol_automaton.specs.Scanning.{item_of}
use Rattle.pol_automaton.specs.Having.{meant}
use Rattle.pol_automaton.proofs.Matched.{none_more, none_of_all, first_of_items}
use Rattle.pol_automaton.proofs.cutting.first_sure.Goals as goal

pub is_any_text-requires : goal.is_any_text-requires
is_any_text-requires c = c.requires.within c.loop-item.item-index (item_of 0 0) c.loop-item-test.true

pub returns-then-is_any_text-clause-some : goal.returns-then-is_any_text-clause-some
returns-then-is_any_text-clause-some c =
    let table = c.args.terms.now in
    let items = c.args.items.now in
    let i = c.loop-item.item-index in
    let item = slice_index_or items i (item_of 0 0) in
    let lt = c.loop-item-test.true in
    let is = get_or_default items i (item_of 0 0) item lt in
    let means : (term : Term) → Means table item.term term → term ≡ any_text = λ term m. (c.is_any_text.ensures.exact term m).0 c.if-is_any_text.true in
    let first = first_of_items (λ term. term ≡ any_text) table items i item c.requires lt is c.loop-item.invariant means in
    let own = meant table item.term (c.requires.within i (item_of 0 0) lt) in
    record {
      there = (i, lt, sym is);
      means = subst (Means table item.term) (means own.0 own.1) own.1;
      none = λ k below h. first.1 k below (any_text, h, refl);
    }

pub loop-item-preserved : goal.loop-item-preserved
loop-item-preserved c =
    let items = c.args.items.now in
    let i = c.loop-item.item-index in
    let item = slice_index_or items i (item_of 0 0) in
    none_more (λ term. term ≡ any_text) c.args.terms.now items i item c.loop-item-test.true (get_or_default items i (item_of 0 0) item c.loop-item-test.true) c.loop-item.invariant
    (λ term means is. let yes : c.is_any_text.result ≡ true = (c.is_any_text.ensures.exact term means).1 is in absurd (true≢false (sym yes ∙ c.if-is_any_text.false)))

pub returns-clause-none : goal.returns-clause-none
returns-clause-none c = λ entry h.
    none_of_all (λ term. term ≡ any_text) c.args.terms.now c.args.items.now c.loop-item.item-index c.loop-item-test.false c.loop-item.invariant entry (any_text, h, refl)
