-- Remainders are numbers below the divisor.
use Rattle.std.proofs.Common.{◌<◌, ℕ, List, [], ◌∷◌, arith}
use Rattle.std.specs.List.{fold}
use Rattle.pol_scan.specs.Congruence.{HasNumbersBelow}
use Rattle.policy_tests.specs.declared.scan.remainders.Numerals.{Numerals}
use Rattle.policy_tests.specs.Remainder.{after, remainder, remainders}

below : (n : Numerals) (r : ℕ) (word : List ℕ) → r < n.divisor → fold (after n) r word < n.divisor
below n r [] h = h
below n r (c ∷ word) h = below n (after n r c) word (omega (arith, n.positive))

pub numbered : (n : Numerals) → HasNumbersBelow (remainders n) n.divisor
numbered n = record {
  number = λ word is_word. remainder n word;
  below = λ word is_word. below n 0 word n.positive;
  tells = λ u v p q e. e;
}
