use Rattle.std.proofs.Common.{◌≤◌, ◌<◌, ℕ, IsTrue}
use Rattle.pol_pattern.specs.Flat.{holds_symbol}
use Rattle.pol_deriv.proofs.table.holds_all.Given as goal

abbrev pub invariant-symbols : goal.invariant-symbols
invariant-symbols l = (k : ℕ) → 32 ≤ k → k < l.symbol → IsTrue (holds_symbol l.class k)
