-- The secret that server and clients share.
use Rattle.std.specs.Prelude.{ℕ, Bool, ◌&&◌, nat_lt, nat_le, List, length, Option, Some, None}
use Rattle.std.specs.Prelude.{if◌then◌else◌}
use Rattle.basics.specs.Symbol.{is_text}

-- the most symbols that a key has
abbrev pub max_key : ℕ
max_key = 128

-- at least one symbol
abbrev pub is_key : List ℕ → Bool
is_key text = (nat_lt 0 (length text) && nat_le (length text) max_key) && is_text text

abbrev pub key_of : List ℕ → Option (List ℕ)
key_of text = if is_key text then Some text else None
