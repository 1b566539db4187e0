use Rattle.std.proofs.Common.{◌≡◌, ◌++◌, take}
use Rattle.pol_meaning.specs.Reach.{unreached}
use Rattle.pol_report.proofs.reaching.add_unreached.Given as goal

abbrev pub invariant-loop-row : goal.invariant-loop-row
invariant-loop-row l = l.shadows ≡ l.fn.shadows ++ unreached l.subject (take l.row-index l.rows)
