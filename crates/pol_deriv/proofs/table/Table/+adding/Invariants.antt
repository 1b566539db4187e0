use Rattle.std.proofs.Common.{drop, ◌+◌}
use Rattle.pol_pattern.specs.Flat as flat
use Rattle.pol_deriv.specs.Table.{Means, Grows}
use Rattle.pol_deriv.specs.Nodes.{term_at, of_kind}
use Rattle.pol_deriv.proofs.Descent.{factor_weight, term_weight, terms_weight}
use Rattle.pol_deriv.proofs.table.Table.+adding.Given as goal

-- the factors from this one on have the number
abbrev pub invariant-add_term-factors : goal.invariant-add_term-factors
invariant-add_term-factors l = record {
  grows : Grows l.fn.self l.self;
  meant : Means l.self l.number (flat.term_value (drop l.i l.factors));
}

-- the same of terms
abbrev pub invariant-add_terms-terms : goal.invariant-add_terms-terms
invariant-add_terms-terms l = record {
  grows : Grows l.fn.self l.self;
  meant : Means l.self l.number (flat.put (of_kind l.fn.kind (flat.terms_value (drop l.i l.terms))) (term_at l.fn.self l.rest));
}

abbrev pub decreases-add_term : goal.decreases-add_term
decreases-add_term l = term_weight (flat.term_value l.factors.now)

abbrev pub decreases-add_factor : goal.decreases-add_factor
decreases-add_factor l = factor_weight (flat.factor_value l.factor.now)

abbrev pub decreases-add_terms : goal.decreases-add_terms
decreases-add_terms l = 1 + terms_weight (flat.terms_value l.terms.now)
