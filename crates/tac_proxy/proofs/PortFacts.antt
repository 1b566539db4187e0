-- A port's digits.
use Rattle.std.proofs.Common.{◌≡◌, ℕ, ◌+◌, ◌-◌, ◌*◌, ◌^◌, ◌<◌, ◌≤◌, Bool, true, false, cond, ◌&&◌, List, [], ◌∷◌, length, get_or, Option, Some, None, decimal, refl, sym, ap, ◌∙◌, arith, inl, inr, eq-eqb, lt-ltb}
use Rattle.std.specs.Prelude.{nat_le, nat_lt}
use Rattle.std.specs.Char.{digit_value}
use Rattle.std.specs.Str.Parse.{AllDigits, digits_value, digits_value_after}
use Rattle.std.proofs.lemmas.Bool.{cases_lt, and_parts, leb-true, ltb-true, eqb-true, both_ways, and_from}
use Rattle.std.proofs.lemmas.Bool.Decides.{nat_tests}
use Rattle.std.proofs.lemmas.Fmt.{decimal_digit, decimal-digits_value, first_decimal, length-decimal-le}
use Rattle.std.proofs.lemmas.Str.Parse.{numerals_by_value, tells_digits}
use Rattle.basics.specs.Number.{digits_after, number_of}
use Rattle.tac_proxy.specs.Line.{IsPort}
use Rattle.tac_proxy.specs.Words.{is_padded}

one_digit : (byte : ℕ) → 48 ≤ byte → byte ≤ 57 → (digit_value byte < 10) × (digit_value byte ≡ byte - 48)
one_digit byte low high = grind (arith, nat_tests)

-- what digits spell
digits_read : (value : ℕ) (text : List ℕ) (n : ℕ) → digits_after value text ≡ Some n → AllDigits 10 text × (digits_value_after 10 value text ≡ n)
digits_read value [] n e = (tt, cc)
digits_read value (byte ∷ text) n e =
    let (test, more) = cond_some' (nat_le 48 byte && nat_le byte 57) (digits_after (value * 10 + (byte - 48)) text) n e in
    let bounds = and_parts (nat_le 48 byte) (nat_le byte 57) test in
    let digit = one_digit byte (leb-true _ _ bounds.0) (leb-true _ _ bounds.1) in
    let rest = digits_read (value * 10 + (byte - 48)) text n more in
    ((digit.0, rest.0), ap (λ d. digits_value_after 10 (value * 10 + d) text) digit.1 ∙ rest.1)
  where
    cond_some' : (b : Bool) (o : Option ℕ) (n : ℕ) → cond b o None ≡ Some n → (b ≡ true) × (o ≡ Some n)
    cond_some' true o n e = (refl, e)
    cond_some' false o n e = absurd cc

some_number : (text : List ℕ) (n : ℕ) → number_of 5 text ≡ Some n → (0 < length text) × (digits_after 0 text ≡ Some n)
some_number text n e = by (nat_lt 0 (length text) && nat_le (length text) 5) refl e
  where
    by : (b : Bool) → (nat_lt 0 (length text) && nat_le (length text) 5) ≡ b → cond b (digits_after 0 text) None ≡ Some n → (0 < length text) × (digits_after 0 text ≡ Some n)
    by true is e = (ltb-true _ _ (and_parts (nat_lt 0 (length text)) (nat_le (length text) 5) is).0, e)
    by false is e = absurd cc

pub port_read : (digits : List ℕ) (n : ℕ) → is_padded digits ≡ false → number_of 5 digits ≡ Some n → n < 2 ^ 16 → digits ≡ decimal n
port_read digits n plain number small =
    let some = some_number digits n number in
    let read = digits_read 0 digits n some.1 in
    let alone : get_or digits 0 0 ≡ 48 → length digits ≡ 1 = λ zero_first.
    elim (cases_lt 1 (length digits)) [
      | inl more ↦ absurd (both_ways _ plain (and_from _ _ (lt-ltb 1 (length digits) more) (eq-eqb (get_or digits 0 0) 48 zero_first)))
      | inr one ↦ omega (arith, some.0)
    ] in
    let fits : digits_value 10 digits < 2 ^ 64 = omega (arith, read.1) in
    sym (decimal-digits_value (numerals_by_value _ tells_digits) digits read.0 some.0 alone fits) ∙ ap decimal read.1

pub not_padded : (digits : List ℕ) (port : ℕ) → is_padded digits ≡ true → IsPort digits port → ⊥
not_padded digits port padded h =
    let both = and_parts _ _ padded in
    let long : 1 < length digits = ltb-true _ _ both.0 in
    let zero_first : get_or digits 0 0 ≡ 48 = eqb-true _ _ both.1 in
    elim (cases_lt 0 port) [
      | inl more ↦
          let first = first_decimal port more (omega (arith, h.1)) in
          let same : get_or digits 0 0 ≡ get_or (decimal port) 0 0 = ap (λ (t : List ℕ). get_or t 0 0) h.0 in
          omega arith
      | inr zero_port ↦
          let is : port ≡ 0 = omega arith in
          let one : length digits ≡ 1 = ap length (h.0 ∙ ap decimal is ∙ decimal_digit 0 (omega arith)) in
          omega arith
    ]

pub not_read : (digits : List ℕ) (read : Option ℕ) → read ≡ None → ((n : ℕ) → n < 2 ^ 32 → length (decimal n) ≤ 5 → digits ≡ decimal n → read ≡ Some n) → (port : ℕ) → IsPort digits port → ⊥
not_read digits read none printed port h =
    let some = printed port (omega (arith, h.1)) (length-decimal-le 5 port (omega arith) (omega (arith, h.1)) (omega (arith, h.1))) h.0 in
    absurd (cc (none, some))
