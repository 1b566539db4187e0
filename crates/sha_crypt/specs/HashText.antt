-- The text of a hash: `$6$`, perhaps `rounds=N$`, a salt, `$`, and what the password makes.
-- crypt(3) takes other texts too, by reading another salt or other rounds out of them. Here they
-- are refused.
use Rattle.std.specs.Prelude.{ℕ, ◌-◌, ◌==◌, Bool, true, ◌&&◌, ◌||◌, nat_lt, nat_le}
use Rattle.std.specs.Prelude.{List, [], ◌++◌, length, drop, replicate, codes}
use Rattle.std.specs.Prelude.{Option, Some, None, if◌then◌else◌}
use Rattle.std.specs.Fmt.{decimal}
use Rattle.std.specs.List.{list_all}
use Rattle.std.specs.Option.{option_map_or}
use Rattle.std.specs.Str.{bytes_eq}
use Rattle.basics.specs.Lines.{split_at_first}
use Rattle.basics.specs.Number.{number_of}

-- a hash: the rounds, if its text names them, the salt, and the digest in symbols
pub record HashParts : Type 0 where
  pub rounds : Option ℕ
  pub salt : List ℕ
  pub symbols : List ℕ

-- `.` `/` 0-9 A-Z a-z
unfoldable pub is_hash_symbol : ℕ → Bool
is_hash_symbol byte =
    (nat_le 46 byte && nat_le byte 57) || (nat_le 65 byte && nat_le byte 90)
    || (nat_le 97 byte && nat_le byte 122)

-- 1 to 16 symbols
abbrev pub is_salt : List ℕ → Bool
is_salt text = nat_lt 0 (length text) && nat_le (length text) 16 && list_all is_hash_symbol text

-- 86 symbols
abbrev pub is_digest : List ℕ → Bool
is_digest text = length text == 86 && list_all is_hash_symbol text

-- 1,000 to 999,999, where they are named
abbrev pub are_rounds : Option ℕ → Bool
are_rounds rounds = option_map_or (λ n. nat_le 1000 n && nat_le n 999999) rounds true

abbrev pub is_hash : HashParts → Bool
is_hash hash = are_rounds hash.rounds && is_salt hash.salt && is_digest hash.symbols

-- `rounds=N$`, with the fewest digits
abbrev pub rounds_text : Option ℕ → List ℕ
rounds_text rounds = option_map_or (λ n. codes "rounds=" ++ decimal n ++ codes "$") rounds []

-- the one text of a hash
abbrev pub hash_text : HashParts → List ℕ
hash_text hash =
    codes "$6$" ++ rounds_text hash.rounds ++ hash.salt ++ codes "$" ++ hash.symbols

-- ---- reading: the hash that has this text

-- what stands before and after the first `$` behind `$6$` is a salt and symbols; or, where another
-- `$` follows, seven bytes and a number, and then a salt and symbols
abbrev pub three_parts : List ℕ → List ℕ → Option (List ℕ × List ℕ) → HashParts
three_parts front rest None = record { rounds = None; salt = front; symbols = rest }
three_parts front rest (Some (salt, symbols)) =
    record { rounds = number_of 6 (drop 7 front); salt = salt; symbols = symbols }

abbrev pub parts_of : List ℕ → Option HashParts
parts_of text =
    option_map_or (λ parts. Some (three_parts parts.0 parts.1 (split_at_first 36 parts.1)))
    (split_at_first 36 (drop 3 text)) None

-- these parts, if they are those of a hash whose text is this
abbrev pub spelled_by : List ℕ → HashParts → Option HashParts
spelled_by text hash = if is_hash hash && bytes_eq (hash_text hash) text then Some hash else None

abbrev pub hash_of : List ℕ → Option HashParts
hash_of text = option_map_or (spelled_by text) (parts_of text) None

-- ---- how a hash lies in memory

-- a salt, followed by zeros up to 16 bytes
unfoldable pub filled : List ℕ → List ℕ
filled salt = salt ++ replicate (16 - length salt) 0
