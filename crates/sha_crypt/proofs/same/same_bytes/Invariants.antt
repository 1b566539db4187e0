use Rattle.std.proofs.Common.{◌≡◌, ◌<◌, ℕ, get_or}
use Rattle.sha_crypt.proofs.same.same_bytes.Given as goal

-- nothing is set exactly if all bytes so far are the same
abbrev pub invariant-bytes : goal.invariant-bytes
invariant-bytes l = record {
  tells : l.differing ≡ 0 → (k : ℕ) → k < l.i → get_or l.one k 0 ≡ get_or l.other k 0;
  told : l.one ≡ l.other → l.differing ≡ 0;
}
