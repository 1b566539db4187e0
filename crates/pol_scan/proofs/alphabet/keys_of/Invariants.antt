use Rattle.std.proofs.Common.{◌≡◌, ◌<◌, ◌+◌, ◌*◌, ℕ, length, slice_index}
use Rattle.pol_scan.proofs.alphabet.keys_of.Given as goal

-- the symbols so far have their keys
abbrev pub invariant-loop-place : goal.invariant-loop-place
invariant-loop-place l = record {
  size : length l.keys ≡ 95;
  keys : (k : ℕ) → k < l.place → slice_index l.keys k ≡ slice_index l.columns k * 256 + slice_index l.labels k;
}
