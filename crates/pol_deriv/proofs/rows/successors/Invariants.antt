use Rattle.std.proofs.Common.{◌≡◌, take}
use Rattle.pol_deriv.specs.Forms.{reached}
use Rattle.pol_deriv.proofs.rows.successors.Given as goal

abbrev pub invariant-loop-monomial : goal.invariant-loop-monomial
invariant-loop-monomial l = l.numbers.items ≡ reached l.symbol (take l.monomial-index l.form)
