use Rattle.std.proofs.Common.{◌≡◌, ◌≤◌, ◌<◌, ◌^◌, ◌+◌, ◌*◌, ℕ, suc, arith, lit<}
use Rattle.std.proofs.Math.Nat.{pow-le-pow_right, pow-suc}
use Rattle.basics.proofs.number.read_digits.Goals as goal

ten_more : (n : ℕ) → n < 9 → 10 ^ n * 10 ≤ 10 ^ 9
ten_more n lt =
    let e : 10 ^ (suc n) ≡ 10 ^ n * 10 = pow-suc 10 n in
    let ten : 0 < 10 = lit< tt in
    let le : suc n ≤ 9 = omega arith in
    omega (arith, pow-le-pow_right {n = 10} ten {i = suc n} {j = 9} le, e)

in_range : (n value digit : ℕ) → n < 9 → value < 10 ^ n → digit < 10 → value * 10 + digit < 2 ^ 32
in_range n value digit lt below small = omega (arith, ten_more n lt)

pub overflow_mul-value : goal.overflow_mul-value
overflow_mul-value c =
    omega (arith, in_range c.digits.byte-index c.digits.value 0 (omega (arith, c.requires)) c.digits.invariant.below (omega arith))

pub overflow_add-value : goal.overflow_add-value
overflow_add-value c =
    let digit : c.from.result < 10 = grind (arith, c.from.ensures, c.if-not-is_ascii_digit.false, c.is_ascii_digit.ensures.value) in
    omega (arith, in_range c.digits.byte-index c.digits.value c.from.result (omega (arith, c.requires)) c.digits.invariant.below digit)
