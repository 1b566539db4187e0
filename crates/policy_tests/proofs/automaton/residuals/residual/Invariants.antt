use Rattle.pol_deriv.specs.Table.{AreNumbers}
use Rattle.policy_tests.proofs.automaton.residuals.residual.Given as goal

abbrev pub invariant-loop-symbol : goal.invariant-loop-symbol
invariant-loop-symbol l = AreNumbers l.terms l.set
