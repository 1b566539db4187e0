use Rattle.std.proofs.Common.{◌≡◌, ◌≤◌, ◌||◌, length, take, drop}
use Rattle.pol_pattern.specs.Flat.{factor_value, term_value, terms_value}
use Rattle.pol_pattern.specs.Matching.{term_positions, terms_positions, term_ends, terms_end}
use Rattle.pol_pattern.proofs.Descent.{factor_weight, term_weight, terms_weight}
use Rattle.pol_pattern.proofs.matching.+ends.Given as goal

abbrev pub decreases-factor_ends : goal.decreases-factor_ends
decreases-factor_ends l = factor_weight (factor_value l.factor.now)

abbrev pub decreases-term_ends : goal.decreases-term_ends
decreases-term_ends l = term_weight (term_value l.factors.now)

abbrev pub decreases-terms_end : goal.decreases-terms_end
decreases-terms_end l = terms_weight (terms_value l.terms.now)

abbrev pub invariant-term_ends-loop-factor : goal.invariant-term_ends-loop-factor
invariant-term_ends-loop-factor l = record {
  fit : term_positions (term_value (drop l.factor-index l.factors)) ≤ length l.rest;
  same : term_ends (term_value (drop l.factor-index l.factors)) l.ends (take (term_positions (term_value (drop l.factor-index l.factors))) l.rest)
      ≡ term_ends (term_value l.factors) l.before (take (term_positions (term_value l.factors)) l.marks);
  left : drop (term_positions (term_value (drop l.factor-index l.factors))) l.rest ≡ drop (term_positions (term_value l.factors)) l.marks;
}

abbrev pub invariant-terms_end-loop-term : goal.invariant-terms_end-loop-term
invariant-terms_end-loop-term l = record {
  fit : terms_positions (terms_value (drop l.term-index l.terms)) ≤ length l.rest;
  same : (l.ends || terms_end (terms_value (drop l.term-index l.terms)) l.before (take (terms_positions (terms_value (drop l.term-index l.terms))) l.rest))
      ≡ terms_end (terms_value l.terms) l.before (take (terms_positions (terms_value l.terms)) l.marks);
  left : drop (terms_positions (terms_value (drop l.term-index l.terms))) l.rest ≡ drop (terms_positions (terms_value l.terms)) l.marks;
}
