use Rattle.std.proofs.Common.{◌≡◌, ◌<◌, ◌+◌, ℕ, length, slice_index}
use mir.Val.{bool_byte}
use Rattle.pol_pattern.specs.Flat.{holds_symbol}
use Rattle.pol_automaton.proofs.dividing.labels_of.Given as goal

-- the symbols so far are labelled
abbrev pub invariant-loop-place : goal.invariant-loop-place
invariant-loop-place l = record {
  size : length l.labels ≡ 95;
  labels : (k : ℕ) → k < l.place → slice_index l.labels k ≡ bool_byte (holds_symbol l.class (32 + k));
}
