-- What a password makes by SHA-crypt with SHA-512: Ulrich Drepper, "Unix crypt using SHA-256 and
-- SHA-512", version 0.6, as crypt(3) and `openssl passwd -6` have it. The steps are those of that
-- description, and so are the names A, B, DP, P, DS and S. Passwords and salts are lists of bytes.
use Rattle.std.specs.Prelude.{ℕ, zero, suc, ◌+◌, ◌*◌, ◌/◌, ◌%◌, ◌^◌, ◌==◌, if◌then◌else◌}
use Rattle.std.specs.Prelude.{List, [], ◌∷◌, ◌++◌, length, take, slice_index, codes}
use Rattle.sha2.specs.Sha512.{sha512}

-- the first n bytes of a digest of 64 bytes that is repeated without end
unfoldable pub repeated : List ℕ → ℕ → List ℕ
repeated digest zero = []
repeated digest (suc n) = repeated digest n ++ slice_index digest (n % 64) ∷ []

-- a text n times
unfoldable pub times : List ℕ → ℕ → List ℕ
times text zero = []
times text (suc n) = times text n ++ text

-- for bit i of a number: the one text for a 1, the other for a 0, and nothing above the highest 1
abbrev pub by_bit : List ℕ → List ℕ → ℕ → ℕ → List ℕ
by_bit one other number i =
    if number / 2 ^ i == 0 then [] else if number / 2 ^ i % 2 == 1 then one else other

-- for its n lowest bits, the lowest first
unfoldable pub by_bits : List ℕ → List ℕ → ℕ → ℕ → List ℕ
by_bits one other number zero = []
by_bits one other number (suc n) = by_bits one other number n ++ by_bit one other number n

-- ---- what goes into the rounds

-- digest B (steps 4 to 8)
abbrev pub first_digest : List ℕ → List ℕ → List ℕ
first_digest salt password = sha512 (password ++ salt ++ password)

-- digest A (steps 1 to 3 and 9 to 12): as many bytes of B as the password has, and then B or the
-- password for each bit of its length, of which there are eight for up to 255 bytes
abbrev pub start_digest : List ℕ → List ℕ → List ℕ
start_digest salt password =
    let first = first_digest salt password in
    sha512 (password ++ salt ++ repeated first (length password)
    ++ by_bits first password (length password) 8)

-- the sequence P, as long as the password (steps 13 to 16): of the digest DP, which is that of the
-- password once for each of its bytes
abbrev pub password_part : List ℕ → List ℕ
password_part password = repeated (sha512 (times password (length password))) (length password)

-- the sequence S, as long as the salt (steps 17 to 20): of the digest DS, which is that of the salt
-- 16 times and as many more as the first byte of A says
abbrev pub salt_part : List ℕ → ℕ → List ℕ
salt_part salt byte = repeated (sha512 (times salt (16 + byte))) (length salt)

-- ---- the rounds (step 21)

-- what round i takes the digest of, where the digest so far is this
abbrev pub mixed : List ℕ → List ℕ → ℕ → List ℕ → List ℕ
mixed p s i digest =
    (if i % 2 == 1 then p else digest)
    ++ (if i % 3 == 0 then [] else s)
    ++ (if i % 7 == 0 then [] else p)
    ++ (if i % 2 == 1 then digest else p)

-- after n rounds, numbered from 0
unfoldable pub after_rounds : List ℕ → List ℕ → List ℕ → ℕ → List ℕ
after_rounds p s start zero = start
after_rounds p s start (suc n) = sha512 (mixed p s n (after_rounds p s start n))

-- the digest of a password under a salt after so many rounds
abbrev pub crypt_digest : ℕ → List ℕ → List ℕ → List ℕ
crypt_digest rounds salt password =
    let start = start_digest salt password in
    after_rounds (password_part password) (salt_part salt (slice_index start 0)) start rounds

-- ---- the digest in symbols (step 22)

abbrev pub alphabet : List ℕ
alphabet = codes "./0123456789ABCDEFGHIJKLMNOPQRSTUVWXYZabcdefghijklmnopqrstuvwxyz"

-- three bytes as four symbols of six bits each, the lowest bits first
abbrev pub four_symbols : ℕ → ℕ → ℕ → List ℕ
four_symbols x y z =
    let bits = x * 65536 + y * 256 + z in
    slice_index alphabet (bits % 64) ∷ slice_index alphabet (bits / 64 % 64)
    ∷ slice_index alphabet (bits / 4096 % 64) ∷ slice_index alphabet (bits / 262144 % 64) ∷ []

-- four symbols are made of the bytes 0, 21, 42, the next of 22, 43, 1, then of 44, 2, 23, and so on
abbrev pub symbols_at : List ℕ → ℕ → List ℕ
symbols_at digest i =
    let a = slice_index digest i in
    let b = slice_index digest (i + 21) in
    let c = slice_index digest (i + 42) in
    if i % 3 == 0 then four_symbols a b c
    else if i % 3 == 1 then four_symbols b c a else four_symbols c a b

unfoldable pub first_symbols : List ℕ → ℕ → List ℕ
first_symbols digest zero = []
first_symbols digest (suc n) = first_symbols digest n ++ symbols_at digest n

-- 86 symbols, of which the last two are those of byte 63
abbrev pub in_symbols : List ℕ → List ℕ
in_symbols digest = first_symbols digest 21 ++ take 2 (four_symbols 0 0 (slice_index digest 63))

-- what a password makes under a salt by so many rounds
abbrev pub crypted : ℕ → List ℕ → List ℕ → List ℕ
crypted rounds salt password = in_symbols (crypt_digest rounds salt password)
