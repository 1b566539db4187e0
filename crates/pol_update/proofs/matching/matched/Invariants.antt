use Rattle.std.proofs.Common.{◌≤◌, vec_len}
use Rattle.pol_update.proofs.matching.matched.Given as goal

abbrev pub invariant-loop-at : goal.invariant-loop-at
invariant-loop-at l = l.at ≤ vec_len l.wanted
