use Rattle.std.proofs.Common.{◌≡◌, drop}
use Rattle.pol_report.specs.Saying.{stands}
use Rattle.pol_report.proofs.saying.all_alike.Given as goal

-- all are alike if those that are left are
abbrev pub invariant-subjects : goal.invariant-subjects
invariant-subjects l = stands (drop l.i l.old) ≡ stands (drop l.i l.new) → stands l.old ≡ stands l.new
