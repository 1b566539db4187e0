use Rattle.std.proofs.Common.{◌+◌, take}
use Rattle.pol_pattern.specs.Flat.{factor_value, term_value, terms_value}
use Rattle.pol_scan.specs.Alphabet.{IsAlphabet, SameColumn, HasClasses}
use Rattle.pol_automaton.specs.Alike.{AllInTerm, AllInTerms, HoldsAlike}
use Rattle.pol_automaton.proofs.Divided.{factor_weight, term_weight, terms_weight}
use Rattle.pol_automaton.proofs.dividing.+dividing.Given as goal

abbrev pub invariant-divide_by_term-loop-factor : goal.invariant-divide_by_term-loop-factor
invariant-divide_by_term-loop-factor l =
    record {
      classes : HasClasses l.divided (λ a b. SameColumn l.fn.alphabet a b × AllInTerm (HoldsAlike a b) (term_value (take l.factor-index l.factors)));
      alphabet : IsAlphabet l.divided;
    }

abbrev pub invariant-divide_by_terms-loop-term : goal.invariant-divide_by_terms-loop-term
invariant-divide_by_terms-loop-term l =
    record {
      classes : HasClasses l.divided (λ a b. SameColumn l.fn.alphabet a b × AllInTerms (HoldsAlike a b) (terms_value (take l.term-index l.terms)));
      alphabet : IsAlphabet l.divided;
    }

abbrev pub decreases-divide_by_factor : goal.decreases-divide_by_factor
decreases-divide_by_factor l = factor_weight (factor_value l.factor.now)

abbrev pub decreases-divide_by_term : goal.decreases-divide_by_term
decreases-divide_by_term l = term_weight (term_value l.factors.now)

abbrev pub decreases-divide_by_terms : goal.decreases-divide_by_terms
decreases-divide_by_terms l = 1 + terms_weight (terms_value l.terms.now)
