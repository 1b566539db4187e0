use Rattle.std.proofs.Common.{drop}
use Rattle.pol_update.specs.Planning.{IsUnderWay, IsNew, IsThere}
use Rattle.pol_update.proofs.plain.add.Given as goal

abbrev pub invariant-subjects : goal.invariant-subjects
invariant-subjects l = IsUnderWay l.old l.new (IsNew l.old l.new) (IsThere l.new) (drop l.subject-index l.new) l.new l.plan
