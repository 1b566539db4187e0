use Rattle.std.proofs.Common.{◌≡◌, ◌<◌, take}
use Rattle.pol_scan.specs.Table.{count, walk}
use Rattle.pol_scan.proofs.table.Table.run.Given as goal

-- the state to which the word's beginning leads
abbrev pub invariant-loop-column : goal.invariant-loop-column
invariant-loop-column l = (l.state < count l.self) × (l.state ≡ walk l.self (take l.column-index l.word))
