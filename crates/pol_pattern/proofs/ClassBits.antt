-- Classes by their bits.
use Rattle.std.proofs.Common.{◌≡◌, ℕ, zero, suc, ◌+◌, ◌-◌, ◌/◌, ◌^◌, ◌<◌, ◌≤◌, min, Bool, true, false, not, ◌||◌, ◌&&◌, leb, ltb, eqb, length, get_or, refl, sym, ap, ◌∙◌, inl, inr, arith}
use Rattle.std.specs.Bool.{beq}
use Rattle.std.specs.Cmp.{booleans_Decides, both_ways}
use Rattle.std.specs.Cmp.Lexicographic.{pointwise, pointwise_decides}
use Rattle.std.specs.Int.{bit_at, w128}
use Rattle.std.specs.Int.Bits.{bit_and, bit_or, bit_xor}
use Rattle.std.proofs.Math.Pow.{pow_mono}
use Rattle.std.proofs.lemmas.Nat.{and_le_l, or_lt}
use Rattle.std.proofs.lemmas.Nat.Bits.{shr_and_one, bit_at_lowest, bit_at-suc, bit_at-lt, bit_at_and, bit_at_or, bit_at_xor, bit_at_not, bit_at_ones, bit_at_ones_above}
use Rattle.std.proofs.lemmas.Bool.{eqb-true, eq-eqb, and_parts, leb-true, cases_lt, lt-ltb, le-ltb}
use Rattle.std.proofs.lemmas.Bool.Decides.{nat_tests}
use Rattle.basics.specs.Symbol.{is_symbol}
use Rattle.pol_pattern.specs.ClassBits.{low_bits, from_bits, from_bits-low_bits}
use Rattle.pol_pattern.specs.Flat.{Class, class_where, holds_symbol}
use Rattle.pol_pattern.proofs.Classes.{at-class_where, class_by_symbols}

length-low_bits : (count number : ℕ) → length (low_bits count number) ≡ count
unfolding low_bits
length-low_bits zero number = refl
length-low_bits (suc count) number = ap suc (length-low_bits count (number / 2))

-- whether a bit is set
abbrev pub is_set : ℕ → ℕ → Bool
is_set number place = eqb (bit_at number place) 1

pub at-low_bits : (count number place : ℕ) → place < count → get_or (low_bits count number) place false ≡ is_set number place
unfolding low_bits
at-low_bits zero number place lt = absurd (omega arith)
at-low_bits (suc count) number zero lt = ap (λ (b : ℕ). eqb b 1) (sym (bit_at_lowest number))
at-low_bits (suc count) number (suc place) lt =
    at-low_bits count (number / 2) place (omega arith) ∙ ap (λ (b : ℕ). eqb b 1) (sym (bit_at-suc number place))

-- a class is known by its bits
pub class_by_bits : (number : ℕ) (test : ℕ → Bool) → ((k : ℕ) → k < 95 → is_set number k ≡ test (0x20 + k)) → low_bits 95 number ≡ class_where test
class_by_bits number test each =
    class_by_symbols (low_bits 95 number) test (length-low_bits 95 number) (λ k lt. at-low_bits 95 number k lt ∙ each k lt)

pub bit_of_class : (number : ℕ) (test : ℕ → Bool) → low_bits 95 number ≡ class_where test → (k : ℕ) → k < 95 → is_set number k ≡ test (0x20 + k)
bit_of_class number test is k lt =
    sym (at-low_bits 95 number k lt) ∙ ap (λ (class : Class). get_or class k false) is ∙ at-class_where test k lt

-- ---- the bits of masks

is_set-or : (a b k : ℕ) → is_set (bit_or a b) k ≡ (is_set a k || is_set b k)
is_set-or a b k =
    let is = bit_at_or a b k in
    let one = bit_at-lt a k in
    let other = bit_at-lt b k in
    grind (arith, nat_tests)

is_set-and : (a b k : ℕ) → is_set (bit_and a b) k ≡ (is_set a k && is_set b k)
is_set-and a b k =
    let is = bit_at_and a b k in
    let one = bit_at-lt a k in
    let other = bit_at-lt b k in
    grind (arith, nat_tests)

is_set-not : (number k : ℕ) → number < 2 ^ 95 → k < 95 → is_set (2 ^ 128 - 1 - number) k ≡ not (is_set number k)
is_set-not number k small lt =
    let is : bit_at (2 ^ 128 - 1 - number) k ≡ 1 - bit_at number k = bit_at_not w128 number k (omega (arith, small)) (omega (arith, lt)) in
    let one = bit_at-lt number k in
    grind (arith, nat_tests)

is_set-turned : (number k : ℕ) → k < 95 → is_set (bit_xor number (2 ^ 95 - 1)) k ≡ not (is_set number k)
is_set-turned number k lt =
    let is = bit_at_xor number (2 ^ 95 - 1) k in
    let ones = bit_at_ones 95 k lt in
    let one = bit_at-lt number k in
    grind (arith, nat_tests)

-- the bits of the symbols below a byte
abbrev pub below_byte : ℕ → ℕ
below_byte byte = 2 ^ min (byte - 0x20) 95 - 1

below_byte-small : (byte : ℕ) → below_byte byte < 2 ^ 95
below_byte-small byte =
    let within : min (byte - 0x20) 95 ≤ 95 = omega arith in
    omega (arith, pow_mono within)

is_set-below : (byte k : ℕ) → k < 95 → is_set (below_byte byte) k ≡ ltb (0x20 + k) byte
is_set-below byte k lt =
    elim (cases_lt k (min (byte - 0x20) 95)) [
      | inl inside ↦ ap (λ (b : ℕ). eqb b 1) (bit_at_ones (min (byte - 0x20) 95) k inside) ∙ sym (lt-ltb (0x20 + k) byte (omega (arith, inside, lt)))
      | inr above ↦ ap (λ (b : ℕ). eqb b 1) (bit_at_ones_above (min (byte - 0x20) 95) k above) ∙ sym (le-ltb (0x20 + k) byte (omega (arith, above, lt)))
    ]

-- ---- what the code computes

-- the bits with those from the first to the last
abbrev pub with_bits : ℕ → ℕ → ℕ → ℕ
with_bits number before through = bit_or number (bit_and through (2 ^ 128 - 1 - before))

pub with_bits-small : (number before through past : ℕ) → through ≡ below_byte past → number < 2 ^ 95 → with_bits number before through < 2 ^ 95
with_bits-small number before through past is small =
    or_lt 95 number (bit_and through (2 ^ 128 - 1 - before)) small (omega (arith, and_le_l through (2 ^ 128 - 1 - before), below_byte-small past, is))

within : (first final byte : ℕ) → byte < 127 → (ltb byte (min (final + 1) 255) && not (ltb byte first)) ≡ (leb first byte && leb byte final)
within first final byte lt = grind (arith, nat_tests)

range_bit : (before through first final past k : ℕ) → before ≡ below_byte first → through ≡ below_byte past → past ≡ min (final + 1) 255 → k < 95
    → is_set (bit_and through (2 ^ 128 - 1 - before)) k ≡ (leb first (0x20 + k) && leb (0x20 + k) final)
range_bit before through first final past k before_is through_is past_is lt =
    let of_through : is_set through k ≡ ltb (0x20 + k) (min (final + 1) 255) =
    ap (λ (n : ℕ). is_set n k) through_is ∙ is_set-below past k lt ∙ ap (ltb (0x20 + k)) past_is in
    let of_before : is_set before k ≡ ltb (0x20 + k) first = ap (λ (n : ℕ). is_set n k) before_is ∙ is_set-below first k lt in
    is_set-and through (2 ^ 128 - 1 - before) k
    ∙ ap (λ (b : Bool). b && is_set (2 ^ 128 - 1 - before) k) of_through
    ∙ ap (λ (b : Bool). ltb (0x20 + k) (min (final + 1) 255) && b) (is_set-not before k (omega (arith, below_byte-small first, before_is)) lt ∙ ap not of_before)
    ∙ within first final (0x20 + k) (omega (arith, lt))

pub with_bits-range : (number before through first final past : ℕ) (test : ℕ → Bool) → before ≡ below_byte first → through ≡ below_byte past → past ≡ min (final + 1) 255
    → low_bits 95 number ≡ class_where test → low_bits 95 (with_bits number before through) ≡ class_where (λ byte. test byte || (leb first byte && leb byte final))
with_bits-range number before through first final past test before_is through_is past_is is =
    class_by_bits (with_bits number before through) (λ byte. test byte || (leb first byte && leb byte final)) (λ k lt.
    is_set-or number (bit_and through (2 ^ 128 - 1 - before)) k
    ∙ ap (λ (b : Bool). b || is_set (bit_and through (2 ^ 128 - 1 - before)) k) (bit_of_class number test is k lt)
    ∙ ap (λ (b : Bool). test (0x20 + k) || b) (range_bit before through first final past k before_is through_is past_is lt))

pub turned : (number : ℕ) (test : ℕ → Bool) → low_bits 95 number ≡ class_where test → low_bits 95 (bit_xor number (2 ^ 95 - 1)) ≡ class_where (λ byte. not (test byte))
turned number test is =
    class_by_bits (bit_xor number (2 ^ 95 - 1)) (λ byte. not (test byte)) (λ k lt.
    is_set-turned number k lt ∙ ap not (bit_of_class number test is k lt))

pub symbol_bit : (number symbol : ℕ) (class : Class) → low_bits 95 number ≡ class → is_symbol symbol ≡ true
    → eqb (bit_and (number / 2 ^ (symbol - 0x20)) 1) 1 ≡ holds_symbol class symbol
unfolding holds_symbol
symbol_bit number symbol class is right =
    let bounds = and_parts (leb 0x20 symbol) (leb symbol 0x7E) right in
    let low : 0x20 ≤ symbol = leb-true 0x20 symbol bounds.0 in
    let high : symbol ≤ 0x7E = leb-true symbol 0x7E bounds.1 in
    ap (λ (b : ℕ). eqb b 1) (shr_and_one number (symbol - 0x20))
    ∙ sym (at-low_bits 95 number (symbol - 0x20) (omega (arith, low, high)))
    ∙ ap (λ (members : Class). get_or members (symbol - 0x20) false) is
    ∙ ap (λ (b : Bool). b && get_or class (symbol - 0x20) false) (sym right)

-- a class gives its bits back
pub bits_back : (number : ℕ) (class : Class) → low_bits 95 number ≡ class → number < 2 ^ 95 → number ≡ from_bits class
bits_back number class is small = sym (from_bits-low_bits 95 number small) ∙ ap from_bits is

-- two classes are equal where their bits are
pub same_bits : (number other : ℕ) (class class' : Class) → low_bits 95 number ≡ class → low_bits 95 other ≡ class' → number < 2 ^ 95 → other < 2 ^ 95
    → eqb number other ≡ pointwise beq class class'
same_bits number other class class' is is' small small' =
    let decides = pointwise_decides booleans_Decides class class' in
    both_ways (eqb number other) (pointwise beq class class') (λ same.
    decides.1 (sym is ∙ ap (low_bits 95) (eqb-true number other same) ∙ is')) (λ same.
    eq-eqb number other (bits_back number class is small ∙ ap from_bits (decides.0 same) ∙ sym (bits_back other class' is' small')))
