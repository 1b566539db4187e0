use Rattle.std.proofs.Common.{drop}
use Rattle.pol_update.specs.Planning.{IsUnderWay, IsNewThere, IsSet}
use Rattle.pol_update.proofs.plain.settle.Given as goal

abbrev pub invariant-subjects : goal.invariant-subjects
invariant-subjects l = IsUnderWay l.old l.new (IsNewThere l.old l.new) (IsSet l.new) (drop l.subject-index l.new) l.new l.plan
