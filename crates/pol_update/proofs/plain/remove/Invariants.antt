use Rattle.std.proofs.Common.{drop}
use Rattle.pol_update.specs.Planning.{IsUnderWay, IsGone, IsOldOut}
use Rattle.pol_update.proofs.plain.remove.Given as goal

abbrev pub invariant-subjects : goal.invariant-subjects
invariant-subjects l = IsUnderWay l.old l.new (IsOldOut l.old l.new) (IsGone l.new) (drop l.subject-index l.old) l.old l.plan
