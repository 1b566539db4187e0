use Rattle.std.proofs.Common.{take}
use Rattle.pol_deriv.specs.Table.{Grows}
use Rattle.pol_automaton.specs.Stepping.{AreDerivatives}
use Rattle.pol_automaton.proofs.stepping.derivatives.Given as goal

abbrev pub invariant-loop-item : goal.invariant-loop-item
invariant-loop-item l = record {
  grows : Grows l.fn.terms l.terms;
  exact : AreDerivatives l.fn.terms l.terms l.symbol (take l.item-index l.items) l.next.items;
}
