use Rattle.std.proofs.lemmas.List.{take_all, get_or_default}
use Rattle.std.specs.Prelude.{slice_index_or}
use Rattle.pol_automaton.specs.Scanning.{item_of}
use Rattle.pol_automaton.specs.Having.{within_kept, within_members, grows_by, derive_more, derived_in_order}
use Rattle.pol_automaton.proofs.stepping.derivatives.Goals as goal

pub push_derivatives-requires-clause-item : goal.push_derivatives-requires-clause-item
push_derivatives-requires-clause-item c =
    within_kept c.args.terms.now c.loop-item.terms c.args.items.now c.loop-item.invariant.grows.kept c.requires.within c.loop-item.item-index (item_of 0 0) c.loop-item-test.true

pub loop-item-preserved : goal.loop-item-preserved
loop-item-preserved c =
    let l = c.loop-item in
    let items = c.args.items.now in
    let item = slice_index_or items l.item-index (item_of 0 0) in
    record {
      grows = grows_by c.args.terms.now l.terms c.push_derivatives.new.terms l.invariant.grows c.in_ok-push_derivatives.ensures.grows;
      exact = derive_more c.args.terms.now l.terms c.push_derivatives.new.terms c.args.symbol items l.item-index item l.next.items c.push_derivatives.new.derived.items
          l.invariant.grows c.requires.within c.loop-item-test.true (get_or_default items l.item-index (item_of 0 0) item c.loop-item-test.true) l.invariant.exact
          c.in_ok-push_derivatives.ensures.adds;
    }

pub returns-clause-right : goal.returns-clause-right
returns-clause-right c = record {
  sorted = c.arrange.ensures.sorted;
  within = within_members c.loop-item.terms c.loop-item.next.items c.arrange.new.items.items c.arrange.ensures.members c.loop-item.invariant.exact.within;
  distinct = c.loop-item.invariant.grows.distinct;
}

pub returns-clause-exact : goal.returns-clause-exact
returns-clause-exact c =
    derived_in_order c.args.terms.now c.loop-item.terms c.args.symbol c.args.items.now _ c.loop-item.next.items c.arrange.new.items.items
    (take_all c.loop-item.item-index c.args.items.now c.loop-item-test.false) c.arrange.ensures.members c.loop-item.invariant.exact
