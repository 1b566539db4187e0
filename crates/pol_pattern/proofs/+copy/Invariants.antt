use Rattle.std.proofs.Common.{◌≡◌, map, take}
use Rattle.pol_pattern.specs.Flat.{factor_value, term_value, terms_value}
use Rattle.pol_pattern.proofs.Descent.{factor_weight, term_weight, terms_weight}
use Rattle.pol_pattern.proofs.+copy.Given as goal

abbrev pub decreases-flat::Factor::copy : goal.decreases-flat::Factor::copy
decreases-flat::Factor::copy l = factor_weight (factor_value l.self.now)

abbrev pub decreases-copying::copy_terms : goal.decreases-copying::copy_terms
decreases-copying::copy_terms l = terms_weight (terms_value l.terms.now)

abbrev pub decreases-copying::copy_term : goal.decreases-copying::copy_term
decreases-copying::copy_term l = term_weight (term_value l.term.now)

abbrev pub invariant-copying::copy_terms-loop-term : goal.invariant-copying::copy_terms-loop-term
invariant-copying::copy_terms-loop-term l = terms_value l.copies.items ≡ terms_value (take l.term-index l.terms)

abbrev pub invariant-copying::copy_term-loop-factor : goal.invariant-copying::copy_term-loop-factor
invariant-copying::copy_term-loop-factor l = map factor_value l.copy.items ≡ map factor_value (take l.factor-index l.term)
