use Rattle.pol_pattern.specs.Flat.{term_value}
use Rattle.pol_deriv.proofs.Tables.{grows_on}
use Rattle.pol_deriv.proofs.Sets.{stands_same, stands_kept, stands_push}
use Rattle.pol_deriv.proofs.Among.{among_more}
use Rattle.pol_deriv.proofs.Whole.{whole-term}
use Rattle.pol_deriv.proofs.table.Table.add_each.Goals as goal

pub add_term-requires : goal.add_term-requires
add_term-requires c =
    rw c.deref.ensures.value (whole-term c.args.terms.now c.loop-term.term-index c.term-item.result c.loop-term-test.true c.term-item.is c.requires.whole)

pub loop-term-preserved : goal.loop-term-preserved
loop-term-preserved c =
    let l = c.loop-term in
    let kept = stands_kept c.add_term.ensures.grows.kept l.invariant.members in
    let means = rw c.deref.ensures.value at c.in_ok-add_term.ensures.meant in
    rw c.in_ok-push.ensures.items (record {
      grows = grows_on l.invariant.grows c.add_term.ensures.grows;
      members = stands_same (among_more c.args.terms.now l.term-index c.term-item.result c.loop-term-test.true c.term-item.is)
          (stands_push l.numbers.items c.in_ok-add_term.field-0 (term_value c.term-item.result.items) kept means);
    })
