use Rattle.std.proofs.Common.{ℕ, ◌<◌}
use Rattle.tac_proxy.specs.Line.{HasEnd}
use Rattle.tac_proxy.proofs.line.find_end.Given as goal

abbrev pub invariant-places : goal.invariant-places
invariant-places l = (k : ℕ) → k < l.at → ¬ (HasEnd l.bytes k)
