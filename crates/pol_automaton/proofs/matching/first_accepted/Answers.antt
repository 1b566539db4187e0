use Rattle.std.proofs.Common.{◌≡◌, true, [], sym, ◌∙◌, true≢false}
use Rattle.std.specs.Prelude.{slice_index_or}
use Rattle.std.proofs.lemmas.List.{get_or_default}
use Rattle.pol_automaton.specs.Scanning.{item_of}
use Rattle.pol_pattern.specs.Sets.{InTerm}
use Rattle.pol_automaton.proofs.Matched.{none_more, none_of_all, first_of_items}
use Rattle.pol_automaton.proofs.matching.first_accepted.Goals as goal

pub holds_empty-requires : goal.holds_empty-requires
holds_empty-requires c = c.requires.within c.loop-item.item-index (item_of 0 0) c.loop-item-test.true

pub returns-then-holds_empty : goal.returns-then-holds_empty
returns-then-holds_empty c =
    let items = c.args.items.now in
    let i = c.loop-item.item-index in
    let item = slice_index_or items i (item_of 0 0) in
    first_of_items (λ term. InTerm term []) c.args.terms.now items i item c.requires c.loop-item-test.true (get_or_default items i (item_of 0 0) item c.loop-item-test.true) c.loop-item.invariant
    (λ term means. (c.holds_empty.ensures.exact term means).0 c.if-holds_empty.true)

pub loop-item-preserved : goal.loop-item-preserved
loop-item-preserved c =
    let items = c.args.items.now in
    let i = c.loop-item.item-index in
    let item = slice_index_or items i (item_of 0 0) in
    none_more (λ term. InTerm term []) c.args.terms.now items i item c.loop-item-test.true (get_or_default items i (item_of 0 0) item c.loop-item-test.true) c.loop-item.invariant
    (λ term means holds. let held : c.holds_empty.result ≡ true = (c.holds_empty.ensures.exact term means).1 holds in absurd (true≢false (sym held ∙ c.if-holds_empty.false)))

pub returns : goal.returns
returns c = none_of_all (λ term. InTerm term []) c.args.terms.now c.args.items.now c.loop-item.item-index c.loop-item-test.false c.loop-item.invariant
