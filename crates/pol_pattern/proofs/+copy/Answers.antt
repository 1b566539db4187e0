use Rattle.std.proofs.Common.{sym, ap, ◌∙◌, arith}
use Rattle.pol_pattern.specs.Flat.{factor_value, group, star}
use Rattle.pol_pattern.specs.Values.{value_group, value_star}
use Rattle.pol_pattern.proofs.Descent.{factor_weight, term_weight-item, terms_weight-item}
use Rattle.pol_pattern.proofs.Values.{terms_value-more}
use Rattle.pol_pattern.proofs.+copy.Goals as goal

pub flat::Factor::copy-copy_terms-requires : goal.flat::Factor::copy-copy_terms-requires
flat::Factor::copy-copy_terms-requires t c =
    let e = ap factor_value c.in-Group.is ∙ value_group c.in-Group.terms in
    rw c.deref.ensures.value (omega (arith, c.decreases, ap factor_weight e), tt)

pub flat::Factor::copy-copy_terms-requires-in-Star : goal.flat::Factor::copy-copy_terms-requires-in-Star
flat::Factor::copy-copy_terms-requires-in-Star t c =
    let e = ap factor_value c.in-Star.is ∙ value_star c.in-Star.terms in
    rw c.deref-in-Star.ensures.value (omega (arith, c.decreases, ap factor_weight e), tt)

pub flat::Factor::copy-returns-in_ok-copy_terms-in-Group : goal.flat::Factor::copy-returns-in_ok-copy_terms-in-Group
flat::Factor::copy-returns-in_ok-copy_terms-in-Group t c =
    value_group c.in_ok-copy_terms-in-Group.field-0
    ∙ ap group (rw c.deref.ensures.value at c.in_ok-copy_terms-in-Group.ensures)
    ∙ sym (value_group c.in-Group.terms) ∙ ap factor_value (sym c.in-Group.is)

pub flat::Factor::copy-returns-in_ok-copy_terms-in-Star : goal.flat::Factor::copy-returns-in_ok-copy_terms-in-Star
flat::Factor::copy-returns-in_ok-copy_terms-in-Star t c =
    value_star c.in_ok-copy_terms-in-Star.field-0
    ∙ ap star (rw c.deref-in-Star.ensures.value at c.in_ok-copy_terms-in-Star.ensures)
    ∙ sym (value_star c.in-Star.terms) ∙ ap factor_value (sym c.in-Star.is)

pub copying::copy_terms-copy_term-requires : goal.copying::copy_terms-copy_term-requires
copying::copy_terms-copy_term-requires t c =
    let falls = terms_weight-item c.args.terms.now c.loop-term.term-index c.term-item.result c.loop-term-test.true c.term-item.is in
    rw c.deref.ensures.value (omega (arith, c.decreases, falls), tt)

pub copying::copy_terms-loop-term-preserved : goal.copying::copy_terms-loop-term-preserved
copying::copy_terms-loop-term-preserved t c =
    let same = rw c.deref.ensures.value at c.in_ok-copy_term.ensures in
    rw c.in_ok-push.ensures.items
    (terms_value-more c.args.terms.now c.loop-term.copies.items _ c.term-item.result _ c.loop-term-test.true c.term-item.is c.loop-term.invariant same)

pub copying::copy_term-copy-requires : goal.copying::copy_term-copy-requires
copying::copy_term-copy-requires t c =
    let falls = term_weight-item c.args.term.now c.loop-factor.factor-index c.factor-item.result c.loop-factor-test.true c.factor-item.is in
    (omega (arith, c.decreases, falls), tt)
