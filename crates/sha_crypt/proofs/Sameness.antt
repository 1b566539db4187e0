-- Bytes that don't differ.
use Rattle.std.proofs.Common.{◌≡◌, ◌<◌, ◌≤◌, ◌+◌, ℕ, List, length, get_or, bit_or, bit_xor, nat_eq, refl, sym, ap, ◌∙◌, arith, inl, inr}
use Rattle.std.specs.Bool.{Decides}
use Rattle.std.specs.Int.Bits.{xor_self, xor_zero_r, xor_zero_l, xor_assoc}
use Rattle.std.proofs.lemmas.Bool.{cases_lt, eqb-true, eq-eqb}
use Rattle.std.proofs.lemmas.Nat.{le_or_l, le_or_r}
use Rattle.std.proofs.lemmas.List.{ext_get_or}

-- numbers that xor to 0 are the same
same_by_xor : (a b : ℕ) → bit_xor a b ≡ 0 → a ≡ b
same_by_xor a b e =
    sym (xor_zero_r a) ∙ ap (bit_xor a) (sym (xor_self b)) ∙ sym (xor_assoc a b b)
    ∙ ap (λ n. bit_xor n b) e ∙ xor_zero_l b

-- where both together are 0, each is
both_none : (a b : ℕ) → bit_or a b ≡ 0 → (a ≡ 0) × (b ≡ 0)
both_none a b e =
    let left = le_or_l a b in
    let right = le_or_r a b in
    (omega arith, omega arith)

-- one more byte that is the same
pub same_further : (differing : ℕ) (one other : List ℕ) (i : ℕ)
    → (differing ≡ 0 → (k : ℕ) → k < i → get_or one k 0 ≡ get_or other k 0)
    → bit_or differing (bit_xor (get_or one i 0) (get_or other i 0)) ≡ 0
    → (k : ℕ) → k < i + 1 → get_or one k 0 ≡ get_or other k 0
same_further differing one other i tells e k below =
    let none = both_none differing (bit_xor (get_or one i 0) (get_or other i 0)) e in
    elim (cases_lt k i) [
      | inl before ↦ tells none.0 k before
      | inr after ↦ let here : k ≡ i = omega arith in rw here (same_by_xor (get_or one i 0) (get_or other i 0) none.1)
    ]

pub none_further : (differing : ℕ) (one other : List ℕ) (i : ℕ) → one ≡ other → differing ≡ 0
    → bit_or differing (bit_xor (get_or one i 0) (get_or other i 0)) ≡ 0
none_further differing one other i e none = rw (none, e, xor_self (get_or other i 0)) refl

-- past the last byte it is decided
pub decided : (differing : ℕ) (one other : List ℕ) (i : ℕ) → length one ≡ length other → length one ≤ i
    → (differing ≡ 0 → (k : ℕ) → k < i → get_or one k 0 ≡ get_or other k 0) → (one ≡ other → differing ≡ 0)
    → Decides (nat_eq differing 0) (one ≡ other)
decided differing one other i len end tells told = (
  λ none. ext_get_or 0 one other len (λ k below. tells (eqb-true differing 0 none) k (omega arith)),
  λ e. eq-eqb differing 0 (told e),
)
