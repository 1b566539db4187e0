use Rattle.std.proofs.Common.{◌≡◌}
use Rattle.pol_live.proofs.staying.sharing.Given as goal

abbrev pub invariant-loop-was : goal.invariant-loop-was
invariant-loop-was l = l.shared ≡ l.fn.policy
