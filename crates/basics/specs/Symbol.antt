-- Symbols and texts.
use Rattle.std.specs.Prelude.{ℕ, Bool, ◌&&◌, nat_le, List}
use Rattle.std.specs.List.{list_all}

-- a symbol is a byte from 0x20 to 0x7E
abbrev pub is_symbol : ℕ → Bool
is_symbol byte = nat_le 0x20 byte && nat_le byte 0x7E

-- a text is a list of symbols
abbrev pub is_text : List ℕ → Bool
is_text bytes = list_all is_symbol bytes
