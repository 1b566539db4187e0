use Rattle.std.proofs.Common.{◌≡◌, ℕ, ◌*◌, ◌<◌, ◌≤◌, length, get_or, bit_xor}
use Rattle.tac_wire.specs.Pad.{seed, digest, pad}
use Rattle.tac_wire.proofs.pad.pad_in_place.Given as goal

-- the bytes under the digests so far are padded, the others as they were, and the digest is the next
abbrev pub invariant-digests : goal.invariant-digests
invariant-digests l = record {
  done : (k : ℕ) → k < length l.initial.body → k < 16 * l.n → get_or l.body k 0 ≡ bit_xor (get_or l.initial.body k 0) (get_or (pad l.header l.key (length l.initial.body)) k 0);
  rest : (k : ℕ) → 16 * l.n ≤ k → get_or l.body k 0 ≡ get_or l.initial.body k 0;
  present : 16 * l.n < l.len → l.digest ≡ digest (seed l.header l.key) l.n;
}
