use Rattle.std.proofs.Common.{◌≡◌, ◌<◌, ◌+◌, ◌*◌, ℕ, slice_index}
use Rattle.pol_scan.proofs.table.is_trap.Given as goal

-- the columns so far lead back
abbrev pub invariant-loop-column : goal.invariant-loop-column
invariant-loop-column l = (column : ℕ) → column < l.column → slice_index l.cells (l.state * l.width + column) ≡ l.state
