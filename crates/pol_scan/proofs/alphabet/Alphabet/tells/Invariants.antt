use Rattle.std.proofs.Common.{◌≡◌, ◌<◌, ◌-◌, ℕ, slice_index}
use Rattle.pol_scan.proofs.alphabet.Alphabet.tells.Given as goal

-- the symbols so far have the labels of their columns' least symbols
abbrev pub invariant-loop-place : goal.invariant-loop-place
invariant-loop-place l = (k : ℕ) → k < l.place
    → slice_index l.labels k ≡ slice_index l.labels (slice_index l.self.least (slice_index l.self.columns k) - 32)
