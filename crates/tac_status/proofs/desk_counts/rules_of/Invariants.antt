use Rattle.std.proofs.Common.{◌≡◌, ◌-◌, ◌^◌, ◌+◌, ◌≤◌, min, drop}
use Rattle.tac_status.specs.Counting as counting
use Rattle.tac_status.proofs.desk_counts.rules_of.Given as goal

-- those so far and those of the rest are all
abbrev pub invariant-subjects : goal.invariant-subjects
invariant-subjects l = record {
  small : l.rules ≤ 2 ^ 64 - 1;
  all : min (l.rules + counting.rules_of (drop l.subject-index l.subject-items)) (2 ^ 64 - 1)
      ≡ min (counting.rules_of l.policy) (2 ^ 64 - 1);
}
