use Rattle.std.proofs.Common.{◌≡◌, ◌≤◌, ◌+◌, ◌++◌, ◌||◌, length, take, drop}
use Rattle.pol_pattern.specs.Flat.{factor_value, term_value, terms_value}
use Rattle.pol_pattern.specs.Matching.{term_positions, terms_positions, term_ends, terms_end, term_moved, terms_moved}
use Rattle.pol_pattern.proofs.Descent.{factor_weight, term_weight, terms_weight}
use Rattle.pol_pattern.proofs.matching.+moved.Given as goal

abbrev pub decreases-move_factor : goal.decreases-move_factor
decreases-move_factor l = factor_weight (factor_value l.factor.now)

abbrev pub decreases-move_term : goal.decreases-move_term
decreases-move_term l = term_weight (term_value l.factors.now)

abbrev pub decreases-move_terms : goal.decreases-move_terms
decreases-move_terms l = terms_weight (terms_value l.terms.now)

abbrev pub invariant-move_term-loop-factor : goal.invariant-move_term-loop-factor
invariant-move_term-loop-factor l =
    let rest = term_value (drop l.factor-index l.factors) in
    let whole = term_value l.factors in
    let left = drop l.place l.marks in record {
      count : l.place + term_positions rest ≡ term_positions whole;
      fit : term_positions whole ≤ length l.marks;
      moved : take l.place l.marks ++ (term_moved rest l.ends l.symbol (take (term_positions rest) left) ++ drop (term_positions rest) left)
          ≡ term_moved whole l.before l.symbol (take (term_positions whole) l.fn.marks) ++ drop (term_positions whole) l.fn.marks;
      ending : term_ends rest l.ends (take (term_positions rest) left) ≡ term_ends whole l.before (take (term_positions whole) l.fn.marks);
    }

abbrev pub invariant-move_terms-loop-term : goal.invariant-move_terms-loop-term
invariant-move_terms-loop-term l =
    let rest = terms_value (drop l.term-index l.terms) in
    let whole = terms_value l.terms in
    let left = drop l.place l.marks in record {
      count : l.place + terms_positions rest ≡ terms_positions whole;
      fit : terms_positions whole ≤ length l.marks;
      moved : take l.place l.marks ++ (terms_moved rest l.before l.symbol (take (terms_positions rest) left) ++ drop (terms_positions rest) left)
          ≡ terms_moved whole l.before l.symbol (take (terms_positions whole) l.fn.marks) ++ drop (terms_positions whole) l.fn.marks;
      ending : (l.ends || terms_end rest l.before (take (terms_positions rest) left)) ≡ terms_end whole l.before (take (terms_positions whole) l.fn.marks);
    }
