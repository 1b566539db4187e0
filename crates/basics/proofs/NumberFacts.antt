-- A number that was printed is read as itself.
use Rattle.std.proofs.Common.{◌≡◌, ℕ, ◌+◌, ◌*◌, ◌/◌, ◌%◌, ◌^◌, ◌<◌, ◌≤◌, List, [], ◌∷◌, ◌++◌, length, Option, Some, None, refl, ap, ◌∙◌, arith, cond, Bool, true, false, ◌&&◌, ◌-◌}
use Rattle.std.specs.Prelude.{nat_le}
use Rattle.std.specs.Fmt.{decimal}
use Rattle.std.proofs.lemmas.Bool.{le-leb, lt-ltb}
use Rattle.std.proofs.lemmas.Bool.Decides.{nat_tests}
use Rattle.std.proofs.lemmas.Fmt.{decimal_by_steps, decimal_nonempty}
use Rattle.basics.specs.Number.{digits_after, number_of}

-- one more digit
digits_after-digit : (value digit : ℕ) → digit < 10 → digits_after value ((48 + digit) ∷ []) ≡ Some (value * 10 + digit)
digits_after-digit value digit small = grind (arith, nat_tests)

-- the digits after a first byte, if that is a digit too
after : (b : Bool) (told : Option ℕ) (value : ℕ) → cond b told None ≡ Some value → (b ≡ true) × (told ≡ Some value)
after true told value e = (refl, e)
after false told value e = absurd cc

digits_after-append : (start : ℕ) (front : List ℕ) (value digit : ℕ) → digit < 10 → digits_after start front ≡ Some value → digits_after start (front ++ (48 + digit) ∷ []) ≡ Some (value * 10 + digit)
digits_after-append start [] value digit small e = let same : start ≡ value = cc in rw same (digits_after-digit value digit small)
digits_after-append start (byte ∷ front) value digit small e =
    let parts = after (nat_le 48 byte && nat_le byte 57) (digits_after (start * 10 + (byte - 48)) front) value e in
    rw parts.0 (digits_after-append (start * 10 + (byte - 48)) front value digit small parts.1)

one_more : (n : ℕ) (front : List ℕ) → digits_after 0 front ≡ Some (n / 10) → digits_after 0 (front ++ (48 + n % 10) ∷ []) ≡ Some n
one_more n front e =
    let whole : n / 10 * 10 + n % 10 ≡ n = omega arith in
    digits_after-append 0 front (n / 10) (n % 10) (omega arith) e ∙ ap (λ (k : ℕ). Some k) whole

first : (n : ℕ) → n < 10 → digits_after 0 ((48 + n) ∷ []) ≡ Some n
first n small = grind (arith, nat_tests)

-- the digits of a number tell it
digits_after-decimal : (n : ℕ) → n < 2 ^ 64 → digits_after 0 (decimal n) ≡ Some n
digits_after-decimal = decimal_by_steps (λ n digits. digits_after 0 digits ≡ Some n) first (λ n front more e. one_more n front e)

pub number_of-decimal : (most n : ℕ) → n < 2 ^ 64 → length (decimal n) ≤ most → number_of most (decimal n) ≡ Some n
number_of-decimal most n small short = rw (lt-ltb _ _ (decimal_nonempty n small), le-leb _ _ short) (digits_after-decimal n small)
