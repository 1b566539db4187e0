use Rattle.std.proofs.Common.{drop}
use Rattle.pol_update.specs.Planning.{IsUnderWay, IsOld, IsOut}
use Rattle.pol_update.proofs.plain.take_out.Given as goal

abbrev pub invariant-subjects : goal.invariant-subjects
invariant-subjects l = IsUnderWay l.old l.new (IsOld l.old l.new) (IsOut l.old l.new) (drop l.subject-index l.old) l.old l.plan
