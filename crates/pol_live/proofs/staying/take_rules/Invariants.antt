use Rattle.std.proofs.Common.{◌≡◌}
use Rattle.pol_live.proofs.staying.take_rules.Given as goal

abbrev pub invariant-loop-at : goal.invariant-loop-at
invariant-loop-at l = l.policy ≡ l.fn.policy
