use Rattle.std.proofs.Common.{◌≡◌}
use Rattle.pol_pattern.specs.Flat.{term_value}
use Rattle.pol_pattern.specs.Spelling.{copies}
use Rattle.pol_pattern.proofs.building.copies.Given as goal

abbrev pub invariant-copies : goal.invariant-copies
invariant-copies l = term_value l.term.items ≡ copies l._made (term_value l.factors)
