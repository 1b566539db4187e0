use Rattle.std.proofs.Common.{◌≢◌, ◌<◌, ℕ, slice_index}
use Rattle.pol_scan.proofs.alphabet.place_of.Given as goal

-- none of the places so far has the key
abbrev pub invariant-loop-place : goal.invariant-loop-place
invariant-loop-place l = (k : ℕ) → k < l.place → slice_index l.keys k ≢ l.key
