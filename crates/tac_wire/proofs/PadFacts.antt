-- The pad, byte by byte, and that it undoes itself.
use Rattle.std.proofs.Common.{◌≡◌, ℕ, zero, suc, ◌-◌, ◌*◌, ◌/◌, ◌%◌, ◌<◌, ◌≤◌, List, [], ◌∷◌, ◌++◌, length, get_or, take, refl, ap, ◌∙◌, arith, inl, inr, bit_xor}
use Rattle.std.specs.Int.Bits.{xor_self, xor_zero_r, xor_assoc}
use Rattle.std.proofs.lemmas.Bool.{cases_lt}
use Rattle.std.proofs.lemmas.List.{length-append, length-take, get_or-take, get_or_append_left, get_or-append_right}
use Rattle.md5.proofs.StandardFacts.{length-md5}
use Rattle.tac_wire.specs.Pad.{digest, digests, xored}

pub length-digest : (seed : List ℕ) (n : ℕ) → length (digest seed n) ≡ 16
unfolding digest
length-digest seed zero = length-md5 seed
length-digest seed (suc n) = length-md5 (seed ++ digest seed n)

pub length-digests : (seed : List ℕ) (n : ℕ) → length (digests seed n) ≡ n * 16
unfolding digests
length-digests seed zero = refl
length-digests seed (suc n) = omega (arith, length-append (digests seed n) (digest seed n), length-digests seed n, length-digest seed n)

-- the byte at a place of the joined digests
digests_at : (seed : List ℕ) (n k : ℕ) → k < n * 16 → get_or (digests seed n) k 0 ≡ get_or (digest seed (k / 16)) (k % 16) 0
unfolding digests
digests_at seed zero k h = absurd (omega arith)
digests_at seed (suc n) k h =
    elim (cases_lt k (n * 16)) [
      | inl lt ↦ get_or_append_left (digests seed n) (digest seed n) 0 k (omega (arith, length-digests seed n)) ∙ digests_at seed n k lt
      | inr le ↦
          let quotient : k / 16 ≡ n = omega arith in
          let remainder : k % 16 ≡ k - n * 16 = omega arith in
          get_or-append_right (digests seed n) (digest seed n) (n * 16) k 0 (length-digests seed n) le ∙ rw (quotient, remainder) refl
    ]

-- the byte at a place of the pad
pub pad_at : (seed : List ℕ) (len k : ℕ) → k < len → get_or (take len (digests seed len)) k 0 ≡ get_or (digest seed (k / 16)) (k % 16) 0
pad_at seed len k h = get_or-take len (digests seed len) k 0 h ∙ digests_at seed len k (omega arith)

pub length-pad : (seed : List ℕ) (len : ℕ) → length (take len (digests seed len)) ≡ len
length-pad seed len = omega (arith, length-take len (digests seed len), length-digests seed len)

pub length-xored : (bytes masks : List ℕ) → length bytes ≤ length masks → length (xored bytes masks) ≡ length bytes
length-xored [] masks h = refl
length-xored (b ∷ bytes) [] h = absurd (omega arith)
length-xored (b ∷ bytes) (m ∷ masks) h = ap suc (length-xored bytes masks (omega arith))

pub xored_at : (bytes masks : List ℕ) (k : ℕ) → length bytes ≤ length masks → k < length bytes → get_or (xored bytes masks) k 0 ≡ bit_xor (get_or bytes k 0) (get_or masks k 0)
xored_at [] masks k h lt = absurd (omega arith)
xored_at (b ∷ bytes) [] k h lt = absurd (omega arith)
xored_at (b ∷ bytes) (m ∷ masks) zero h lt = refl
xored_at (b ∷ bytes) (m ∷ masks) (suc k) h lt = xored_at bytes masks k (omega arith) (omega arith)

pub xored-xored : (bytes masks : List ℕ) → length bytes ≤ length masks → xored (xored bytes masks) masks ≡ bytes
xored-xored [] masks h = refl
xored-xored (b ∷ bytes) [] h = absurd (omega arith)
xored-xored (b ∷ bytes) (m ∷ masks) h =
    let rest = xored-xored bytes masks (omega arith) in
    let here : bit_xor (bit_xor b m) m ≡ b = rw (xor_assoc, xor_self, xor_zero_r) refl in
    cc
