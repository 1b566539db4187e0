use Rattle.std.proofs.Common.{List, take, ap, subst, ◌∙◌, arith}
use Rattle.std.specs.Global.{Vec}
use Rattle.std.proofs.lemmas.List.{take_all}
use Rattle.pol_pattern.specs.Flat.{factor_value, term_value, terms_value}
use Rattle.pol_pattern.specs.Values.{value_class, value_group, value_star}
use Rattle.pol_pattern.specs.declared.flat.Factor.{Factor as FactorValue}
use Rattle.pol_scan.specs.Alphabet.{SameColumn, HasClasses}
use Rattle.pol_automaton.specs.Alike.{AllInFactor, AllInTerm, AllInTerms, HoldsAlike}
use Rattle.pol_automaton.proofs.Divided.{factor_weight, lighter_factor, lighter_term, divided_not, divided_more, factors_more, terms_more}
use Rattle.pol_automaton.proofs.dividing.+dividing.Goals as goal

pub divide_by_factor-returns-in-Class-clause-classes : goal.divide_by_factor-returns-in-Class-clause-classes
divide_by_factor-returns-in-Class-clause-classes t c =
    rw (c.in-Class.is, value_class c.in-Class.class) (λ a b p q.
    let columns = c.divide.ensures.classes a b p q in
    let labels = c.labels_of.ensures a b p q in (
      λ h. let w = columns.0 h in (w.0, labels.0 w.1),
      λ h. columns.1 (h.0, labels.1 h.1),
    ))

pub divide_by_factor-returns-in-Group-clause-classes : goal.divide_by_factor-returns-in-Group-clause-classes
divide_by_factor-returns-in-Group-clause-classes t c =
    rw (c.in-Group.is, value_group c.in-Group.terms, ← c.deref.ensures.value) c.divide_by_terms.ensures.classes

pub divide_by_factor-returns-in-Star-clause-classes : goal.divide_by_factor-returns-in-Star-clause-classes
divide_by_factor-returns-in-Star-clause-classes t c =
    rw (c.in-Star.is, value_star c.in-Star.terms, ← c.deref-in-Star.ensures.value) c.divide_by_terms-in-Star.ensures.classes

pub divide_by_term-loop-factor-init : goal.divide_by_term-loop-factor-init
divide_by_term-loop-factor-init t c = record {
  classes = divided_not c.args.alphabet (λ a b. Unit {0}) (λ a b. tt);
  alphabet = c.requires;
}

pub divide_by_term-loop-factor-preserved : goal.divide_by_term-loop-factor-preserved
divide_by_term-loop-factor-preserved t c =
    let i = c.loop-factor.factor-index in
    let factors = c.args.factors.now in
    record {
      classes = divided_more c.args.alphabet c.loop-factor.divided c.divide_by_factor-divided.result
          (λ a b. AllInTerm (HoldsAlike a b) (term_value (take i factors))) (λ a b. AllInFactor (HoldsAlike a b) (factor_value c.factor-item.result)) _
          c.loop-factor.invariant.classes c.divide_by_factor-divided.ensures.classes
          (λ a b. factors_more (HoldsAlike a b) factors i c.factor-item.result c.loop-factor-test.true c.factor-item.is);
      alphabet = c.divide_by_factor-divided.ensures.alphabet;
    }

pub divide_by_term-returns-clause-classes : goal.divide_by_term-returns-clause-classes
divide_by_term-returns-clause-classes t c =
    let i = c.loop-factor.factor-index in
    let factors = c.args.factors.now in
    subst (λ (l : List FactorValue). HasClasses c.loop-factor.divided (λ a b. SameColumn c.args.alphabet a b × AllInTerm (HoldsAlike a b) (term_value l)))
    (take_all i factors c.loop-factor-test.false) c.loop-factor.invariant.classes

pub divide_by_factor-divide_by_terms-requires : goal.divide_by_factor-divide_by_terms-requires
divide_by_factor-divide_by_terms-requires t c =
    let e = ap factor_weight (ap factor_value c.in-Group.is ∙ value_group c.in-Group.terms) in
    rw c.deref.ensures.value (omega (arith, c.decreases, e), c.requires)

pub divide_by_factor-divide_by_terms-requires-in-Star : goal.divide_by_factor-divide_by_terms-requires-in-Star
divide_by_factor-divide_by_terms-requires-in-Star t c =
    let e = ap factor_weight (ap factor_value c.in-Star.is ∙ value_star c.in-Star.terms) in
    rw c.deref-in-Star.ensures.value (omega (arith, c.decreases, e), c.requires)

pub divide_by_term-divide_by_factor-divided-requires : goal.divide_by_term-divide_by_factor-divided-requires
divide_by_term-divide_by_factor-divided-requires t c =
    let falls = lighter_factor c.args.factors.now c.loop-factor.factor-index c.factor-item.result c.loop-factor-test.true c.factor-item.is in
    (omega (arith, c.decreases, falls), c.loop-factor.invariant.alphabet)

pub divide_by_terms-divide_by_term-divided-requires : goal.divide_by_terms-divide_by_term-divided-requires
divide_by_terms-divide_by_term-divided-requires t c =
    let falls = lighter_term c.args.terms.now c.loop-term.term-index c.term-item.result c.loop-term-test.true c.term-item.is in
    rw c.deref.ensures.value (omega (arith, c.decreases, falls), c.loop-term.invariant.alphabet)

pub divide_by_terms-loop-term-init : goal.divide_by_terms-loop-term-init
divide_by_terms-loop-term-init t c = record {
  classes = divided_not c.args.alphabet (λ a b. Unit {0}) (λ a b. tt);
  alphabet = c.requires;
}

pub divide_by_terms-loop-term-preserved : goal.divide_by_terms-loop-term-preserved
divide_by_terms-loop-term-preserved t c =
    let i = c.loop-term.term-index in
    let terms = c.args.terms.now in
    record {
      classes = divided_more c.args.alphabet c.loop-term.divided c.divide_by_term-divided.result
          (λ a b. AllInTerms (HoldsAlike a b) (terms_value (take i terms))) (λ a b. AllInTerm (HoldsAlike a b) (term_value c.term-item.result.items)) _
          c.loop-term.invariant.classes (rw (← c.deref.ensures.value) c.divide_by_term-divided.ensures.classes)
          (λ a b. terms_more (HoldsAlike a b) terms i c.term-item.result c.loop-term-test.true c.term-item.is);
      alphabet = c.divide_by_term-divided.ensures.alphabet;
    }

pub divide_by_terms-returns-clause-classes : goal.divide_by_terms-returns-clause-classes
divide_by_terms-returns-clause-classes t c =
    let i = c.loop-term.term-index in
    let terms = c.args.terms.now in
    subst (λ (l : List (Vec FactorValue)). HasClasses c.loop-term.divided (λ a b. SameColumn c.args.alphabet a b × AllInTerms (HoldsAlike a b) (terms_value l)))
    (take_all i terms c.loop-term-test.false) c.loop-term.invariant.classes
