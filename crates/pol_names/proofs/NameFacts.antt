-- Names in their 32 bytes, and as text.
use Rattle.std.proofs.Common.{◌≡◌, ◌-◌, ◌<◌, zero, suc, ℕ, List, [], ◌∷◌, ◌++◌, length, take, drop, replicate, true, ◌&&◌, nat_le, nat_lt, IsTrue, Some, ap, refl, ◌∙◌, arith}
use Rattle.std.specs.List.{list_all}
use Rattle.std.specs.Str.{IsUtf8, IsAscii}
use Rattle.std.proofs.lemmas.Bool.{and_parts}
use Rattle.std.proofs.lemmas.Bool.Decides.{nat_tests}
use Rattle.std.proofs.lemmas.Str.{IsUtf8-from_ascii}
use Rattle.std.proofs.Math.Seq.{take-append_seam}
use Rattle.std.proofs.lemmas.List.{drop-replicate}
use Rattle.pol_names.specs.Name.{is_name, is_name_byte, name_of, filled}

pub padded_is : (text front : List ℕ) → front ≡ text → front ++ drop (length text) (replicate 32 0) ≡ filled text
unfolding filled
padded_is text front e = rw (e, drop-replicate {X = ℕ} (length text) 32 0) refl

pub take-filled : (text bytes : List ℕ) → bytes ≡ filled text → take (length text) bytes ≡ text
unfolding filled
take-filled text bytes e = ap (take (length text)) e ∙ take-append_seam text (replicate (32 - length text) 0)

pub name_made : (text bytes : List ℕ) → bytes ≡ filled text → is_name text ≡ true
    → (bytes ≡ filled (take (length text) bytes)) × (length text ≡ length (take (length text) bytes)) × IsTrue (is_name (take (length text) bytes))
name_made text bytes e right = let text_is = take-filled text bytes e in rw text_is (e, refl, right)

pub name_read : (text bytes : List ℕ) → bytes ≡ filled text → is_name text ≡ true → Some (take (length text) bytes) ≡ name_of text
name_read text bytes e right = ap Some (take-filled text bytes e) ∙ rw right refl

-- ---- a name is ASCII

name_byte : (byte : ℕ) → is_name_byte byte ≡ true → byte < 128
unfolding is_name_byte
name_byte byte test = grind (arith, nat_tests)

name_bytes : (text : List ℕ) → list_all is_name_byte text ≡ true → IsAscii text
name_bytes [] test i = omega arith
name_bytes (byte ∷ text) test zero = name_byte byte (and_parts (is_name_byte byte) (list_all is_name_byte text) test).0
name_bytes (byte ∷ text) test (suc i) = name_bytes text (and_parts (is_name_byte byte) (list_all is_name_byte text) test).1 i

pub name_utf8 : (text : List ℕ) → IsTrue (is_name text) → IsUtf8 text
name_utf8 text right =
    let test : (nat_lt 0 (length text) && nat_le (length text) 32) && list_all is_name_byte text ≡ true = right in
    IsUtf8-from_ascii text (name_bytes text (and_parts (nat_lt 0 (length text) && nat_le (length text) 32) (list_all is_name_byte text) test).1)
