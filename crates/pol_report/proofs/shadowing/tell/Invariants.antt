use Rattle.std.proofs.Common.{◌≡◌, ◌++◌, map, take}
use Rattle.pol_report.specs.Sharing.{told_for}
use Rattle.pol_report.proofs.shadowing.tell.Given as goal

abbrev pub invariant-loop-rule : goal.invariant-loop-rule
invariant-loop-rule l = l.shadows ≡ l.fn.shadows ++ map (told_for l.subject) (take l.rule-index l.found)
