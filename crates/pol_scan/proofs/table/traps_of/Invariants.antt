use Rattle.std.proofs.Common.{◌≡◌, ◌<◌, ◌↔◌, ◌+◌, ◌*◌, ℕ, IsTrue, false, length, slice_index}
use Rattle.std.specs.List.{slice_index_or}
use Rattle.pol_scan.proofs.table.traps_of.Given as goal

-- a mark for each state so far
abbrev pub invariant-loop-state : goal.invariant-loop-state
invariant-loop-state l = record {
  each : length l.traps.items ≡ l.state;
  right : (state : ℕ) → state < l.state → IsTrue (slice_index_or l.traps.items state false) ↔ ((column : ℕ) → column < l.width → slice_index l.cells (state * l.width + column) ≡ state);
}
