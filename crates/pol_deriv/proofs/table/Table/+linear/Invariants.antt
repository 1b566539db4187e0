use Rattle.std.proofs.Common.{◌≤◌, ◌+◌, ◌*◌}
use Rattle.pol_pattern.specs.Flat.{join_term}
use Rattle.pol_deriv.specs.Linear.{continuation}
use Rattle.pol_deriv.specs.Nodes.{term_at, first_factor, rest_of}
use Rattle.pol_deriv.proofs.Forming.{FactorsSoFar, TermsSoFar}
use Rattle.pol_deriv.proofs.table.Table.+linear.Given as goal

abbrev pub decreases-linear : goal.decreases-linear
decreases-linear l = 2 * l.term + 1

abbrev pub decreases-linear_terms : goal.decreases-linear_terms
decreases-linear_terms l = 2 * l.term

abbrev pub invariant-linear-factors : goal.invariant-linear-factors
invariant-linear-factors l = record {
  below : l.at ≤ l.term;
  so_far : FactorsSoFar l.fn.self l.self (term_at l.fn.self l.term) (term_at l.fn.self l.after) l.at l.fn.form.items l.form.items;
}

abbrev pub decreases-linear-factors : goal.decreases-linear-factors
decreases-linear-factors l = l.at

abbrev pub invariant-linear_terms-terms : goal.invariant-linear_terms-terms
invariant-linear_terms-terms l = record {
  below : l.at ≤ l.term;
  so_far : TermsSoFar l.fn.self l.self (term_at l.fn.self l.term)
      (continuation (first_factor (term_at l.fn.self l.term)) (join_term (rest_of (term_at l.fn.self l.term)) (term_at l.fn.self l.after))) l.at l.next l.holds_empty l.fn.form.items l.form.items;
}

abbrev pub decreases-linear_terms-terms : goal.decreases-linear_terms-terms
decreases-linear_terms-terms l = l.at
