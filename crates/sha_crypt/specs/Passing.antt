-- Which passwords pass for a hash.
use Rattle.std.specs.Prelude.{ℕ, List, length, Bool, ◌&&◌, nat_lt, nat_le}
use Rattle.std.specs.Option.{option_map_or}
use Rattle.std.specs.Str.{bytes_eq}
use Rattle.sha_crypt.specs.Crypt.{crypted}
use Rattle.sha_crypt.specs.HashText.{HashParts}

-- 5,000 where the text names none
abbrev pub rounds_of : HashParts → ℕ
rounds_of hash = option_map_or (λ n. n) hash.rounds 5000

-- a password of 1 to 128 bytes passes for the hash that it makes under that hash's rounds and salt
abbrev pub passes : HashParts → List ℕ → Bool
passes hash password =
    nat_lt 0 (length password) && nat_le (length password) 128
    && bytes_eq (crypted (rounds_of hash) hash.salt password) hash.symbols
