-- Texts, lists of texts and members of objects as JSON (RFC 8259).
use Rattle.std.specs.Prelude.{ℕ, ◌+◌, ◌/◌, ◌%◌, List, [], ◌∷◌, ◌++◌, Bool, false, ◌||◌, ◌&&◌, ◌==◌}
use Rattle.std.specs.Prelude.{nat_lt, codes}
use Rattle.std.specs.Prelude.{Option, Some, None, if◌then◌else◌}
use Rattle.std.specs.List.{flat_map}
use Rattle.std.specs.Fmt.{digit_glyph}

-- two hexadecimal digits, in lower case
abbrev pub hex_byte : ℕ → List ℕ
hex_byte byte = digit_glyph false (byte / 16) ∷ digit_glyph false (byte % 16) ∷ []

-- the quotation mark and the backslash follow a backslash
abbrev pub is_marked : ℕ → Bool
is_marked byte = byte == 0x22 || byte == 0x5C

-- a control character: what comes before the blank, and 0x7F to 0x9F, some of which terminals obey
abbrev pub is_control : ℕ → Bool
is_control byte = nat_lt byte 0x20 || nat_lt 0x7E byte && nat_lt byte 0xA0

-- a byte as the character of its number, within quotation marks (section 7). A control character is
-- `\u00` and its digits; any other from 0x80 on is the two bytes of its character in UTF-8
abbrev pub shown_byte : ℕ → List ℕ
shown_byte byte =
    if is_marked byte then 0x5C ∷ byte ∷ []
    else if is_control byte then 0x5C ∷ 0x75 ∷ 0x30 ∷ 0x30 ∷ hex_byte byte
    else if nat_lt byte 0x80 then byte ∷ []
    else (0xC0 + byte / 64) ∷ (0x80 + byte % 64) ∷ []

-- any bytes within quotation marks
unfoldable pub text_json : List ℕ → List ℕ
text_json text = 0x22 ∷ flat_map shown_byte text ++ 0x22 ∷ []

-- a text, or null where there is none
unfoldable pub optional_json : Option (List ℕ) → List ℕ
optional_json None = codes "null"
optional_json (Some text) = text_json text

-- texts of an array that follow another, and its end
abbrev pub more_json : List (List ℕ) → List ℕ
more_json [] = 0x5D ∷ []
more_json (text ∷ texts) = 0x2C ∷ text_json text ++ more_json texts

-- an array of texts
unfoldable pub texts_json : List (List ℕ) → List ℕ
texts_json [] = 0x5B ∷ 0x5D ∷ []
texts_json (text ∷ texts) = 0x5B ∷ text_json text ++ more_json texts

-- a member of an object that follows another; its name has no byte that would be escaped
unfoldable pub member : List ℕ → List ℕ → List ℕ
member name value = 0x2C ∷ 0x22 ∷ name ++ 0x22 ∷ 0x3A ∷ value
