-- The sizes of numbers.
use Rattle.std.proofs.Common.{◌≡◌, ℕ, zero, suc, ◌+◌, ◌-◌, ◌*◌, ◌<◌, ◌≤◌, ◌&&◌, Bool, true, false, List, [], ◌∷◌, length, Option, Some, None, IfSome, nat_le, nat_lt, subst, refl, arith, if◌then◌else◌}
use Rattle.std.proofs.lemmas.Bool.Decides.{nat_tests}
use Rattle.basics.specs.Number.{digits_after, number_of}

-- ten times the bound for each digit
scaled : ℕ → ℕ → ℕ
scaled zero bound = bound
scaled (suc most) bound = scaled most (bound * 10)

scaled_above : (most bound : ℕ) → bound ≤ scaled most bound
unfolding scaled
scaled_above zero bound = omega arith
scaled_above (suc most) bound = omega (arith, scaled_above most (bound * 10))

if_some : {A : Type 0} (P : A → Type 0) (b : Bool) (o : Option A) → (b ≡ true → IfSome o P) → IfSome (if b then o else None) P
if_some P true o h = h refl
if_some P false o h = tt

digits_below : (most value bound : ℕ) (text : List ℕ) → value < bound → length text ≤ most → IfSome (digits_after value text) (λ n. n < scaled most bound)
unfolding scaled
digits_below most value bound [] small few = omega (arith, scaled_above most bound)
digits_below zero value bound (byte ∷ text) small few = absurd (omega arith)
digits_below (suc most) value bound (byte ∷ text) small few =
    if_some _ (nat_le 48 byte && nat_le byte 57) _ (λ test.
    let digit : byte ≤ 57 = grind (arith, nat_tests) in
    digits_below most (value * 10 + (byte - 48)) (bound * 10) text (omega arith) (omega arith))

some_below : (o : Option ℕ) (bound n : ℕ) → o ≡ Some n → IfSome o (λ n. n < bound) → n < bound
some_below o bound n e h = let P : Option ℕ → Type 0 = λ o. IfSome o (λ n. n < bound) in subst P e h

-- a number of 4 digits fits 16 bits
pub four_digits : (text : List ℕ) (n : ℕ) → number_of 4 text ≡ Some n → n < 65536
unfolding scaled
four_digits text n e =
    let below : IfSome (number_of 4 text) (λ n. n < 10000) = if_some _ (nat_lt 0 (length text) && nat_le (length text) 4) (digits_after 0 text) (λ test.
    let few : length text ≤ 4 = grind (arith, nat_tests) in
    digits_below 4 0 1 text (omega arith) few) in
    let small : n < 10000 = some_below (number_of 4 text) 10000 n e below in
    omega arith
