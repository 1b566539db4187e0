use Rattle.std.proofs.Common.{length, vec_len}
use Rattle.pol_pattern.specs.Flat.{join_term}
use Rattle.pol_deriv.specs.Table.{Means, Grows}
use Rattle.pol_deriv.specs.Nodes.{term_at}
use Rattle.pol_deriv.proofs.Joined.{without_parts, Passed}
use Rattle.pol_deriv.proofs.table.Table.join.Given as goal

abbrev pub invariant-parts : goal.invariant-parts
invariant-parts l = record {
  passed : Passed l.self l.passed.items (term_at l.self l.front);
  left : Means l.self l.at (without_parts (length l.passed.items) (term_at l.self l.front));
}

abbrev pub decreases-parts : goal.decreases-parts
decreases-parts l = l.at

abbrev pub invariant-passed : goal.invariant-passed
invariant-passed l = record {
  grows : Grows l.fn.self l.self;
  passed : Passed l.fn.self l.passed.items (term_at l.fn.self l.fn.front);
  joined : Means l.self l.joined (join_term (without_parts (length l.passed.items) (term_at l.fn.self l.fn.front)) (term_at l.fn.self l.fn.back));
}

abbrev pub decreases-passed : goal.decreases-passed
decreases-passed l = vec_len l.passed
