-- The bits in which the code keeps a class: one for each symbol, from the lowest on.
use Rattle.std.specs.Prelude.{◌≡◌, ◌==◌, ℕ, zero, suc, ◌+◌, ◌*◌, ◌/◌, ◌%◌, ◌^◌, ◌<◌, Bool, cond}
use Rattle.std.specs.Prelude.{List, [], ◌∷◌}
use Rattle.std.proofs.Common.{arith}

-- the lowest bits of a number, from the lowest on
unfoldable pub low_bits : ℕ → ℕ → List Bool
low_bits zero number = []
low_bits (suc count) number = (number % 2 == 1) ∷ low_bits count (number / 2)

-- the number of the bits
unfoldable pub from_bits : List Bool → ℕ
from_bits [] = 0
from_bits (bit ∷ bits) = cond bit 1 0 + 2 * from_bits bits

lowest_bit : (number : ℕ) → cond (number % 2 == 1) 1 0 ≡ number % 2
lowest_bit number = grind arith

pub from_bits-low_bits : (count number : ℕ) → number < 2 ^ count
    → from_bits (low_bits count number) ≡ number
unfolding low_bits from_bits
from_bits-low_bits zero number below = omega arith
from_bits-low_bits (suc count) number below =
    let rest : from_bits (low_bits count (number / 2))
    ≡ number / 2 = from_bits-low_bits count (number / 2) (omega arith) in
    omega (arith, rest, lowest_bit number)
