-- How a text is shown that may have any bytes, as the name of a file does: in one line.
use Rattle.std.specs.Prelude.{ℕ, List, map, Bool, ◌||◌, ◌==◌, nat_lt, if◌then◌else◌}

-- it may end a line, or change what a terminal shows
abbrev pub is_control : ℕ → Bool
is_control byte = nat_lt byte 0x20 || byte == 0x7F

-- a control character is `?`, and each other byte stays, those of UTF-8 too
abbrev pub shown_byte : ℕ → ℕ
shown_byte byte = if is_control byte then 63 else byte

abbrev pub shown : List ℕ → List ℕ
shown bytes = map shown_byte bytes
