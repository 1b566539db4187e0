use Rattle.std.proofs.Common.{◌≡◌, ◌<◌, ◌≤◌, ◌-◌, ℕ, get_or, bit_xor}
use Rattle.tac_wire.proofs.pad.xor_at.Given as goal

-- the bytes from the start up to the place have their masks, the others are as they were
abbrev pub invariant-loop-i : goal.invariant-loop-i
invariant-loop-i l = record {
  done : (k : ℕ) → l.start ≤ k → k < l.i → get_or l.body k 0 ≡ bit_xor (get_or l.initial.body k 0) (get_or l.digest (k - l.start) 0);
  before : (k : ℕ) → k < l.start → get_or l.body k 0 ≡ get_or l.initial.body k 0;
  rest : (k : ℕ) → l.i ≤ k → get_or l.body k 0 ≡ get_or l.initial.body k 0;
}
