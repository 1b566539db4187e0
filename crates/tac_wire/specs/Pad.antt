-- The pad that hides a body (RFC 8907, section 4.5).
use Rattle.std.specs.Prelude.{ℕ, zero, suc, List, [], ◌∷◌, ◌++◌, length, take, bit_xor}
use Rattle.std.specs.Int.{w32, to_be_bytes}
use Rattle.md5.specs.Md5.{md5}
use Rattle.tac_wire.specs.declared.header.Header.{Header}

-- what every digest of the pad begins with: session_id, key, version, seq_no
abbrev pub seed : Header → List ℕ → List ℕ
seed header key = to_be_bytes w32 header.session ++ key ++ header.version ∷ header.seq ∷ []

-- MD5_1 is the digest of the seed, MD5_n that of the seed and MD5_(n-1). They are
-- counted from 0 here.
unfoldable pub digest : List ℕ → ℕ → List ℕ
digest seed zero = md5 seed
digest seed (suc n) = md5 (seed ++ digest seed n)

-- the first n digests, joined
unfoldable pub digests : List ℕ → ℕ → List ℕ
digests seed zero = []
digests seed (suc n) = digests seed n ++ digest seed n

-- the pad of a body of so many bytes: the joined digests, of which no more than one a byte
-- are wanted, cut to the length
abbrev pub pad : Header → List ℕ → ℕ → List ℕ
pad header key len = take len (digests (seed header key) len)

-- each byte of the first list with the byte at its place in the second
abbrev pub xored : List ℕ → List ℕ → List ℕ
xored [] pad = []
xored (byte ∷ bytes) [] = []
xored (byte ∷ bytes) (mask ∷ masks) = bit_xor byte mask ∷ xored bytes masks

-- a body with its pad put on, or taken off
abbrev pub padded : Header → List ℕ → List ℕ → List ℕ
padded header key body = xored body (pad header key (length body))
