use Rattle.std.proofs.Common.{◌≡◌, ℕ, ◌+◌, ◌-◌, ◌*◌, ◌/◌, ◌%◌, ◌<◌, ◌≤◌, ◌++◌, List, length, get_or, take, arith, refl, sym, ap, ◌∙◌, append-nil, bit_xor, suc, inl, inr}
use Rattle.std.proofs.lemmas.Bool.{cases_lt}
use Rattle.std.proofs.lemmas.List.{ext_get_or}
use Rattle.md5.specs.Md5.{md5}
use Rattle.tac_wire.specs.Pad.{seed, digest, digests, xored}
use Rattle.tac_wire.proofs.PadFacts.{pad_at, length-pad, length-xored, xored_at, xored-xored}
use Rattle.tac_wire.proofs.pad.pad_in_place.Goals as goal
use Rattle.tac_wire.proofs.pad.pad_in_place.Goals.{then-n-len, else-n-len}

pub digests-init : goal.digests-init
unfolding digest
digests-init c = record {
  done = λ k lt h. absurd (omega arith);
  rest = λ k h. refl;
  present = λ h. c.digest_after-digest.ensures _ c.seeded-seeded.ensures ∙ ap md5 (append-nil (seed c.args.header.now c.args.key.now));
}

-- a byte under the digest of the present place
masked : (s bytes body masks : List ℕ) (n k new : ℕ) → k < length bytes → 16 * n ≤ k → k < 16 * n + 16 → masks ≡ digest s n → get_or body k 0 ≡ get_or bytes k 0
    → new ≡ bit_xor (get_or body k 0) (get_or masks (k - 16 * n) 0)
    → new ≡ bit_xor (get_or bytes k 0) (get_or (take (length bytes) (digests s (length bytes))) k 0)
masked s bytes body masks n k new lt from below is same e =
    let quotient : k / 16 ≡ n = omega arith in
    let remainder : k % 16 ≡ k - 16 * n = omega arith in
    e ∙ rw (same, is, pad_at s (length bytes) k lt, quotient, remainder) refl

next_digest : (s now : List ℕ) (n : ℕ) → now ≡ digest s n → md5 (s ++ now) ≡ digest s (n + 1)
unfolding digest
next_digest s now n e =
    let place : n + 1 ≡ suc n = omega arith in
    ap (λ (d : List ℕ). md5 (s ++ d)) e ∙ sym (ap (digest s) place)

pub digests-preserved : goal.digests-preserved
digests-preserved c =
    let s = seed c.args.header.now c.args.key.now in
    let n = c.digests.n in
    let inv = c.digests.invariant in
    let here : 16 * n < length c.args.body.now = omega (arith, c.digests-test.true, c.div_ceil-n-end.ensures) in
    let now = inv.present here in
    record {
      done = λ k lt h. elim (cases_lt k (16 * n)) [
        | inl below ↦ c.xor_at.ensures.before k below ∙ inv.done k lt below
        | inr from ↦ masked s c.args.body.now c.digests.body c.digests.digest n k _ lt from (omega arith) now (inv.rest k from) (c.xor_at.ensures.inside k from (omega arith) (omega arith))
      ];
      rest = λ k h. c.xor_at.ensures.after k (omega arith) ∙ inv.rest k (omega arith);
      present = λ h. elim c.if-n-len.branch [
        | then-n-len w ↦ w.digest-is ∙ w.digest_after-digest-then-n-len.ensures _ c.seeded-seeded.ensures ∙ next_digest s c.digests.digest n now
        | else-n-len w ↦ absurd (omega (arith, h, w.if-n-len.false))
      ];
    }

whole : (s bytes body : List ℕ) → length body ≡ length bytes → ((k : ℕ) → k < length bytes → get_or body k 0 ≡ bit_xor (get_or bytes k 0) (get_or (take (length bytes) (digests s (length bytes))) k 0))
    → body ≡ xored bytes (take (length bytes) (digests s (length bytes)))
whole s bytes body len h =
    let long : length bytes ≤ length (take (length bytes) (digests s (length bytes))) = omega (arith, length-pad s (length bytes)) in
    ext_get_or 0 body _ (omega (arith, len, length-xored bytes _ long)) (λ k lt. h k (omega arith) ∙ sym (xored_at bytes _ k long (omega arith)))

pub returns-clause-value : goal.returns-clause-value
returns-clause-value c =
    whole (seed c.args.header.now c.args.key.now) c.args.body.now c.digests.body (omega arith)
    (λ k lt. c.digests.invariant.done k lt (omega (arith, lt, c.digests-test.false, c.div_ceil-n-end.ensures)))

-- bytes are as many with the pad of a seed
length-padded : (s bytes : List ℕ) → length (xored bytes (take (length bytes) (digests s (length bytes)))) ≡ length bytes
length-padded s bytes = length-xored bytes _ (omega (arith, length-pad s (length bytes)))

pub returns-clause-twice : goal.returns-clause-twice
returns-clause-twice c = λ bytes.
    let s = seed c.args.header.now c.args.key.now in
    rw (length-padded s bytes) (xored-xored bytes _ (omega (arith, length-pad s (length bytes))))

pub returns-clause-lengths : goal.returns-clause-lengths
returns-clause-lengths c = λ bytes. length-padded (seed c.args.header.now c.args.key.now) bytes
