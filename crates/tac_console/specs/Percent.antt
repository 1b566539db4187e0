-- Percent form: any bytes in a field that has no blank and no line end.
use Rattle.std.specs.Prelude.{ℕ, ◌/◌, ◌%◌, List, [], ◌∷◌, Bool, true, not, ◌&&◌, ◌==◌, nat_le}
use Rattle.std.specs.Prelude.{if◌then◌else◌}
use Rattle.std.specs.List.{flat_map}
use Rattle.std.specs.Fmt.{digit_glyph}

-- a byte that represents itself: a symbol, but neither the blank nor `%`
abbrev pub is_plain : ℕ → Bool
is_plain byte = nat_le 0x21 byte && nat_le byte 0x7E && not (byte == 37)

-- any other is `%` and two hexadecimal digits, in upper case
abbrev pub shown_byte : ℕ → List ℕ
shown_byte byte =
    if is_plain byte then byte ∷ []
    else 37 ∷ digit_glyph true (byte / 16) ∷ digit_glyph true (byte % 16) ∷ []

-- the empty text is `%` alone
abbrev pub percent_form : List ℕ → List ℕ
percent_form [] = 37 ∷ []
percent_form (byte ∷ bytes) = flat_map shown_byte (byte ∷ bytes)
