-- Numbers in decimal digits.
use Rattle.std.specs.Prelude.{ℕ, ◌+◌, ◌-◌, ◌*◌, List, [], ◌∷◌, length, ◌&&◌, nat_lt, nat_le, Option}
use Rattle.std.specs.Prelude.{Some, None, if◌then◌else◌}

-- the number that has the digits of value in front of these digits
abbrev pub digits_after : ℕ → List ℕ → Option ℕ
digits_after value [] = Some value
digits_after value (byte ∷ bytes) =
    if nat_le 48 byte && nat_le byte 57 then digits_after (value * 10 + (byte - 48)) bytes else None

-- 1 to most digits
abbrev pub number_of : ℕ → List ℕ → Option ℕ
number_of most text =
    if nat_lt 0 (length text) && nat_le (length text) most then digits_after 0 text else None
