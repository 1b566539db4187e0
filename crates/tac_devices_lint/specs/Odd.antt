-- Bytes that are no symbols, and what they are taken for (docs/DEVICES.md).
use Rattle.std.specs.Prelude.{ℕ, List, [], ◌∷◌, ◌==◌, nat_eq, ◌&&◌, if◌then◌else◌}
use Rattle.std.specs.List.{starts_with}
use Rattle.basics.specs.Symbol.{is_symbol}
use Rattle.tac_devices_lint.specs.declared.odd.OddByte.{OddByte}
use Rattle.tac_devices_lint.specs.declared.odd.OddByte.TheVariants.{CarriageReturn, Tab}
use Rattle.tac_devices_lint.specs.declared.odd.OddByte.TheVariants.{ByteOrderMark, Other}

-- a line from its first byte on that is no symbol
abbrev pub from_odd : List ℕ → List ℕ
from_odd [] = []
from_odd (byte ∷ bytes) = if is_symbol byte then from_odd bytes else byte ∷ bytes

-- what such a byte is, in the line of this number: a byte order mark begins a text
abbrev pub odd_byte : ℕ → List ℕ → ℕ → OddByte
odd_byte number line byte =
    if byte == 13 then CarriageReturn
    else if byte == 9 then Tab
    else if number == 1 && starts_with nat_eq line (0xEF ∷ 0xBB ∷ 0xBF ∷ []) then ByteOrderMark
    else Other
