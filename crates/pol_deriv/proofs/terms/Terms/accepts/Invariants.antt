use Rattle.std.proofs.Common.{take, ℕ, ◌≡◌, false}
use Rattle.std.specs.Prelude.{Contains}
use Rattle.pol_deriv.specs.Linear.{term_holds_empty}
use Rattle.pol_deriv.specs.Nodes.{term_at}
use Rattle.pol_deriv.proofs.terms.Terms.accepts.Given as goal

abbrev pub invariant-loop-number : goal.invariant-loop-number
invariant-loop-number l = (n : ℕ) → Contains (take l.number-index l.number-items) n → term_holds_empty (term_at l.self n) ≡ false
