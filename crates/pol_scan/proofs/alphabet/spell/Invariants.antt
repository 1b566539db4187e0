use Rattle.std.proofs.Common.{◌≡◌, ◌++◌, map, take, drop, slice_index}
use Rattle.pol_scan.proofs.alphabet.spell.Given as goal

-- a beginning was spelled, and the rest wasn't
abbrev pub invariant-loop-place : goal.invariant-loop-place
invariant-loop-place l = l.word ≡ map (slice_index l.least) (take l.place-index l.fn.word) ++ drop l.place-index l.fn.word
