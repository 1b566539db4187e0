use Rattle.std.proofs.Common.{◌≡◌, ◌++◌, take}
use Rattle.std.specs.List.{flat_map}
use Rattle.tac_console.specs.Reports.{reached_line}
use Rattle.tac_console.proofs.rules.write_reach.Given as goal

-- the lines of the first rules are added
abbrev pub invariant-rows : goal.invariant-rows
invariant-rows l = l.out.items ≡ l.fn.out.items ++ flat_map reached_line (take l.row-index l.rows)
