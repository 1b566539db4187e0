-- What the flags of an accounting request mean, and the seconds that digits tell.
use Rattle.std.proofs.Common.{◌≡◌, ◌≢◌, ℕ, zero, suc, ◌*◌, ◌/◌, ◌%◌, ◌<◌, ◌^◌, ltb, length, codes, bit_and, Bool, true, false, cond, List, Some, None, Result, Ok, Err, refl, sym, ◌∙◌, arith, rules}
use Rattle.std.proofs.lemmas.Nat.Bits.{and_pow, and_high}
use Rattle.std.specs.Char.{is_ascii_digit}
use Rattle.std.specs.Fmt.{decimal}
use Rattle.std.specs.List.{list_all}
use Rattle.std.specs.Result.{result_ok}
use Rattle.std.specs.Str.{IsUtf8}
use Rattle.std.specs.Str.Parse.{digits_value, ParsesUnsigned}
use Rattle.std.proofs.lemmas.Bool.{and_parts, lt-ltb, ltb-true, false≢true}
use Rattle.std.proofs.lemmas.Fmt.{IsAscii-from_digits, decimal_is_IsNumeral, decimal_nonempty, digits_decimal}
use Rattle.std.proofs.lemmas.Str.{IsUtf8-from_ascii}
use Rattle.std.proofs.lemmas.Str.Parse.{IsNumeralModel, numerals_by_value, parse_digits}
use Rattle.tac_request.specs.Record.{kind_of, seconds_of, first_under, elapsed_of}

-- the three flags are those of what the mask leaves
same_bits : (flags : ℕ) → bit_and flags 14 ≡ flags / 2 % 8 * 2 → (bit_and flags 2 ≡ bit_and (bit_and flags 14) 2) × (bit_and flags 4 ≡ bit_and (bit_and flags 14) 4) × (bit_and flags 8 ≡ bit_and (bit_and flags 14) 8)
same_bits flags masked =
    let m = bit_and flags 14 in
    (omega (arith, and_pow flags 1, and_pow m 1), omega (arith, and_pow flags 2, and_pow m 2), omega (arith, and_pow flags 3, and_pow m 3))

-- the mask leaves the three bits above the lowest
masked : (flags : ℕ) → bit_and flags 14 ≡ flags / 2 % 8 * 2
masked flags = and_high flags 3 1

-- the mask keeps what matters
pub kind_of-masked : (flags m : ℕ) → bit_and flags 14 ≡ m → kind_of flags ≡ kind_of m
kind_of-masked flags m e =
    let bits = same_bits flags (masked flags) in
    rw (bits.0, bits.1, bits.2, e) refl

-- all that the mask can leave
none : (h : ℕ) → h < 8 → h ≢ 1 → h ≢ 2 → h ≢ 4 → h ≢ 5 → kind_of (h * 2) ≡ None
none zero lt a b c d = refl
none (suc zero) lt a b c d = absurd (a refl)
none (suc (suc zero)) lt a b c d = absurd (b refl)
none (suc (suc (suc zero))) lt a b c d = refl
none (suc (suc (suc (suc zero)))) lt a b c d = absurd (c refl)
none (suc (suc (suc (suc (suc zero))))) lt a b c d = absurd (d refl)
none (suc (suc (suc (suc (suc (suc zero)))))) lt a b c d = refl
none (suc (suc (suc (suc (suc (suc (suc zero))))))) lt a b c d = refl
none (suc (suc (suc (suc (suc (suc (suc (suc h)))))))) lt a b c d = absurd (omega arith)

-- no other flags mean anything
pub kind_of-none : (flags : ℕ) → bit_and flags 14 ≢ 2 → bit_and flags 14 ≢ 4 → bit_and flags 14 ≢ 8 → bit_and flags 14 ≢ 10 → kind_of flags ≡ None
kind_of-none flags a b c d =
    let e = masked flags in
    kind_of-masked flags (flags / 2 % 8 * 2) e ∙ none (flags / 2 % 8) (omega arith) (λ h. a (omega arith)) (λ h. b (omega arith)) (λ h. c (omega arith)) (λ h. d (omega arith))

-- ---- the seconds

-- the test of digits is std's
digits : IsNumeralModel (λ ds. list_all is_ascii_digit ds ≡ true) (digits_value 10)
digits = numerals_by_value _ (search rules)

untold : (test : Bool) (value : ℕ) → (test ≡ true → ⊥) → cond test (Some value) None ≡ None
untold true value fails = absurd (fails refl)
untold false value fails = refl

-- what isn't digits tells no seconds
pub seconds_of-none : (text : List ℕ) → list_all is_ascii_digit text ≡ false → seconds_of text ≡ None
seconds_of-none text others = untold _ _ (λ test. absurd (false≢true (sym others ∙ (and_parts _ _ (and_parts _ _ test).0).1)))

-- what parsing digits answers
pub seconds_of-parsed : {E : Type 0} (text : List ℕ) (answer : Result ℕ E) → list_all is_ascii_digit text ≡ true → ParsesUnsigned 32 10 text answer → result_ok answer ≡ seconds_of text
seconds_of-parsed {E} text (Ok seconds) all parses =
    let told = parse_digits digits {E = E} 32 text (Ok seconds) parses all in
    rw (told.1, lt-ltb _ _ told.0.0, all, lt-ltb _ _ told.0.1) refl
seconds_of-parsed {E} text (Err error) all parses =
    let told = parse_digits digits {E = E} 32 text (Err error) parses all in
    sym (untold _ _ (λ test. let tests = and_parts _ _ test in told (ltb-true _ _ (and_parts _ _ tests.0).0, ltb-true _ _ tests.1)))

-- digits are text
pub digits-IsUtf8 : (text : List ℕ) → list_all is_ascii_digit text ≡ true → IsUtf8 text
digits-IsUtf8 text all = IsUtf8-from_ascii text (IsAscii-from_digits text (digits.to text all))

-- the digits of a number tell it
seconds_of-decimal : (n : ℕ) → n < 2 ^ 32 → seconds_of (decimal n) ≡ Some n
seconds_of-decimal n small =
    let value : digits_value 10 (decimal n) ≡ n = (decimal_is_IsNumeral n (omega arith)).1 in
    let all : list_all is_ascii_digit (decimal n) ≡ true = digits_decimal digits n (omega arith) in
    let some : ltb 0 (length (decimal n)) ≡ true = lt-ltb _ _ (decimal_nonempty n (omega arith)) in
    let fits : ltb n (2 ^ 32) ≡ true = lt-ltb _ _ small in
    rw (value, all, some, fits) refl

-- printed seconds are read as themselves
pub elapsed_of-decimal : (args : List (List ℕ)) (n : ℕ) → n < 2 ^ 32 → first_under (codes "elapsed_time") args ≡ Some (decimal n) → elapsed_of args ≡ n
elapsed_of-decimal args n small e = rw (e, seconds_of-decimal n small) refl
