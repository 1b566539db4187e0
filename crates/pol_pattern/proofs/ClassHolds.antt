-- Which symbols a class holds.
use Rattle.std.proofs.Common.{◌≡◌, ℕ, zero, suc, ◌+◌, ◌-◌, ◌≤◌, ◌<◌, Bool, false, ◌&&◌, leb, get_or, map, refl, ap, ◌∙◌, inl, inr, arith}
use Rattle.std.proofs.lemmas.Bool.{and_parts, cases_Bool, leb-true}
use Rattle.basics.specs.Symbol.{is_symbol}
use Rattle.pol_pattern.specs.Flat.{class_where, numbers_from, holds_symbol}

numbers_at : (test : ℕ → Bool) (count first i : ℕ) (d : Bool) → i < count → get_or (map test (numbers_from first count)) i d ≡ test (first + i)
unfolding numbers_from
numbers_at test zero first i d lt = absurd (omega arith)
numbers_at test (suc count) first zero d lt = ap test (omega arith)
numbers_at test (suc count) first (suc i) d lt = numbers_at test count (first + 1) i d (omega arith) ∙ ap test (omega arith)

-- the class of a test holds the symbols for which the test is true
pub class_holds : (test : ℕ → Bool) (byte : ℕ) → holds_symbol (class_where test) byte ≡ (is_symbol byte && test byte)
unfolding holds_symbol class_where
class_holds test byte =
    elim (cases_Bool (is_symbol byte)) [
      | inl symbol ↦
          let bounds = and_parts (leb 0x20 byte) (leb byte 0x7E) symbol in
          let low : 0x20 ≤ byte = leb-true 0x20 byte bounds.0 in
          let high : byte ≤ 0x7E = leb-true byte 0x7E bounds.1 in
          ap (λ (b : Bool). is_symbol byte && b) (numbers_at test 95 0x20 (byte - 0x20) false (omega arith) ∙ ap test (omega arith))
      | inr other ↦ rw other refl
    ]
