-- The fields of a printed record are told apart again.
use Rattle.std.specs.Prelude.{◌≡◌, ◌^◌, ℕ, List, Bool, ◌&&◌, nat_lt, nat_le, IsTrue}
use Rattle.std.specs.List.{list_all}
use Rattle.pol_text.specs.Policy.{all_of}
use Rattle.tac_request.specs.declared.record.Record.{Record}
use Rattle.tac_desk.specs.declared.numbered.Numbered.{Numbered}
use Rattle.tac_console.specs.Percent.{percent_form}
use Rattle.tac_console.specs.Answers.{records_text}

-- numbers below 256, as all bytes are
abbrev pub are_bytes : List ℕ → Bool
are_bytes bytes = list_all (λ byte. nat_lt byte 256) bytes

-- a record as there can be one: bytes, and 32 bits of seconds
abbrev pub is_record : Record → Bool
is_record item =
    are_bytes item.user && are_bytes item.task && all_of are_bytes item.line
    && nat_lt item.elapsed (2 ^ 32)

-- a symbol, but no blank
abbrev pub is_visible : ℕ → Bool
is_visible byte = nat_le 0x21 byte && nat_le byte 0x7E

-- a field in percent form has no blank and no line end
abbrev pub HasNoBlank : List ℕ → Type 0
HasNoBlank text = IsTrue (are_bytes text) → IsTrue (list_all is_visible (percent_form text))

-- a record as there can be one, and a number of 64 bits
abbrev pub is_numbered : Numbered → Bool
is_numbered entry = nat_lt entry.number (2 ^ 64) && is_record entry.item

-- records that are printed alike are the same, and so are their numbers
abbrev pub AreApart : List Numbered → List Numbered → Type 0
AreApart a b =
    IsTrue (list_all is_numbered a) → IsTrue (list_all is_numbered b)
    → records_text a ≡ records_text b → a ≡ b
