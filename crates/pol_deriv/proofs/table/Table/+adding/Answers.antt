use Rattle.std.proofs.Common.{◌-◌, drop, ap, ◌∙◌, arith}
use Rattle.pol_pattern.specs.Flat as flat
use Rattle.pol_pattern.specs.Values.{value_group, value_star}
use Rattle.pol_deriv.specs.Nodes.{term_at}
use Rattle.pol_deriv.proofs.Tables.{grows_on, means_within, term_means, alternative_means, begins_of}
use Rattle.pol_deriv.proofs.Descent.{factor_weight, term_weight-item, terms_weight-item, terms_value-before}
use Rattle.pol_deriv.proofs.Whole.{whole-factor, whole-term}
use Rattle.pol_deriv.proofs.table.Table.+adding.Goals as goal

pub add_factor-add_terms-requires : goal.add_factor-add_terms-requires
add_factor-add_terms-requires t c =
    let e = ap factor_weight (ap flat.factor_value c.in-Group.is ∙ value_group c.in-Group.terms) in
    let whole = rw (c.in-Group.is, value_group c.in-Group.terms) at c.requires.whole in
    rw c.deref.ensures.value (omega (arith, c.decreases, e), (c.requires.rest, whole))

pub add_factor-add_terms-requires-in-Star : goal.add_factor-add_terms-requires-in-Star
add_factor-add_terms-requires-in-Star t c =
    let e = ap factor_weight (ap flat.factor_value c.in-Star.is ∙ value_star c.in-Star.terms) in
    let whole = rw (c.in-Star.is, value_star c.in-Star.terms) at c.requires.whole in
    rw c.deref-in-Star.ensures.value (omega (arith, c.decreases, e), (c.requires.rest, whole))

pub add_factor-returns-in-Group-clause-meant : goal.add_factor-returns-in-Group-clause-meant
add_factor-returns-in-Group-clause-meant t c =
    rw (c.in-Group.is, value_group c.in-Group.terms, ← c.deref.ensures.value) c.add_terms.ensures.meant

pub add_factor-returns-in-Star-clause-meant : goal.add_factor-returns-in-Star-clause-meant
add_factor-returns-in-Star-clause-meant t c =
    rw (c.in-Star.is, value_star c.in-Star.terms, ← c.deref-in-Star.ensures.value) c.add_terms-in-Star.ensures.meant

pub add_term-add_factor-requires : goal.add_term-add_factor-requires
add_term-add_factor-requires t c =
    let falls = term_weight-item c.args.factors.now (c.factors.i - 1) c.index-factors-i.result (omega arith) c.index-factors-i.is in
    let whole = whole-factor c.args.factors.now (c.factors.i - 1) c.index-factors-i.result (omega arith) c.index-factors-i.is c.requires in
    (omega (arith, c.decreases, falls), (means_within c.factors.self c.factors.number _ c.factors.invariant.meant, whole))

pub add_terms-add_term-requires : goal.add_terms-add_term-requires
add_terms-add_term-requires t c =
    let falls = terms_weight-item c.args.terms.now (c.terms.i - 1) c.index-terms-i.result (omega arith) c.index-terms-i.is in
    let whole = whole-term c.args.terms.now (c.terms.i - 1) c.index-terms-i.result (omega arith) c.index-terms-i.is c.requires.whole in
    rw c.deref.ensures.value (omega (arith, c.decreases, falls), whole)

pub add_terms-put_alternative-requires-clause-first : goal.add_terms-put_alternative-requires-clause-first
add_terms-put_alternative-requires-clause-first t c = means_within c.add_term.new.self c.in_ok-first.first _ c.in_ok-first.ensures.meant

pub add_terms-put_alternative-requires-clause-rest : goal.add_terms-put_alternative-requires-clause-rest
add_terms-put_alternative-requires-clause-rest t c = means_within c.add_term.new.self c.terms.number _ (c.add_term.ensures.grows.kept _ _ c.terms.invariant.meant)

pub add_terms-put_alternative-requires-clause-begins : goal.add_terms-put_alternative-requires-clause-begins
add_terms-put_alternative-requires-clause-begins t c =
    let kept = c.add_term.ensures.grows.kept _ _ c.terms.invariant.meant in
    rw (term_means c.add_term.new.self c.terms.number _ kept) (begins_of c.args.kind _ _)

pub add_terms-terms-preserved : goal.add_terms-terms-preserved
add_terms-terms-preserved t c =
    let after = term_at c.args.self.now c.args.rest in
    let terms = flat.terms_value (drop c.terms.i c.args.terms.now) in
    let more = terms_value-before c.args.terms.now c.terms.i c.index-terms-i.result (omega arith) (omega arith) c.index-terms-i.is in
    let own = alternative_means c.args.kind c.add_term.new.self c.put_alternative.new.self c.in_ok-first.first c.terms.number c.in_ok-number-2.number (flat.term_value c.deref.result.now) terms after
    c.in_ok-first.ensures.meant (c.add_term.ensures.grows.kept _ _ c.terms.invariant.meant) c.in_ok-number-2.ensures.meant in
    record {
      grows = grows_on c.terms.invariant.grows (grows_on c.add_term.ensures.grows c.put_alternative.ensures.grows);
      meant = rw (more, ← c.deref.ensures.value) own;
    }
