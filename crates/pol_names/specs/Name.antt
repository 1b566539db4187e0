-- Names of users and groups.
use Rattle.std.specs.Prelude.{ℕ, ◌-◌, List, ◌++◌, length, replicate, Bool, ◌&&◌, ◌||◌, ◌==◌, nat_lt}
use Rattle.std.specs.Prelude.{nat_le, Option, Some, None, if◌then◌else◌}
use Rattle.std.specs.List.{list_all}

-- A-Z a-z 0-9 _ - . @
unfoldable pub is_name_byte : ℕ → Bool
is_name_byte byte =
    (nat_le 65 byte && nat_le byte 90) || (nat_le 97 byte && nat_le byte 122)
    || (nat_le 48 byte && nat_le byte 57)
    || byte == 95 || byte == 45 || byte == 46 || byte == 64

-- 1 to 32 of these bytes
abbrev pub is_name : List ℕ → Bool
is_name text = (nat_lt 0 (length text) && nat_le (length text) 32) && list_all is_name_byte text

abbrev pub name_of : List ℕ → Option (List ℕ)
name_of text = if is_name text then Some text else None

-- the bytes, followed by zeros up to 32
unfoldable pub filled : List ℕ → List ℕ
filled text = text ++ replicate (32 - length text) 0
