use Rattle.std.proofs.Common.{◌≡◌, ◌≤◌, IsTrue}
use Rattle.pol_deriv.specs.Nodes.{term_at, begins_with_terms, kind_of, rest_of}
use Rattle.pol_deriv.proofs.table.Table.end.Given as goal

abbrev pub invariant-alternatives : goal.invariant-alternatives
invariant-alternatives l = record {
  below : l.at ≤ l.number;
  begins : IsTrue (begins_with_terms (term_at l.self l.at));
  kind : kind_of (term_at l.self l.at) ≡ kind_of (term_at l.self l.number);
  rest : rest_of (term_at l.self l.at) ≡ rest_of (term_at l.self l.number);
}

abbrev pub decreases-alternatives : goal.decreases-alternatives
decreases-alternatives l = l.at
