use Rattle.std.proofs.Common.{take}
use Rattle.pol_residual.specs.Derivative.{Derivatives}
use Rattle.pol_deriv.specs.Table.{Grows, StandsFor, HasTerm}
use Rattle.pol_deriv.proofs.terms.Terms.step.Given as goal

abbrev pub invariant-loop-number : goal.invariant-loop-number
invariant-loop-number l = record {
  grows : Grows l.fn.self l.self;
  members : StandsFor l.self l.found.items (Derivatives l.symbol (HasTerm l.fn.self (take l.number-index l.set)));
}
