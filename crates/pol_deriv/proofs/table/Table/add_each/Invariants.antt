use Rattle.std.proofs.Common.{take}
use Rattle.pol_pattern.specs.Flat.{terms_value}
use Rattle.pol_residual.specs.Derivative.{IsAmong}
use Rattle.pol_deriv.specs.Table.{Grows, StandsFor}
use Rattle.pol_deriv.proofs.table.Table.add_each.Given as goal

abbrev pub invariant-loop-term : goal.invariant-loop-term
invariant-loop-term l = record {
  grows : Grows l.fn.self l.self;
  members : StandsFor l.self l.numbers.items (IsAmong (terms_value (take l.term-index l.terms)));
}
