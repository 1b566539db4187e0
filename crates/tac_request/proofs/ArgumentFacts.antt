-- Where the first sign of an argument stands.
use Rattle.std.proofs.Common.{◌≡◌, ℕ, zero, suc, ◌-◌, ◌<◌, add-one, true, false, eqb, List, [], ◌∷◌, Some, None, length, get_or, take, drop, refl, ◌∙◌, arith, inl, inr}
use Rattle.std.proofs.lemmas.List.{take_rest, drop-drop}
use Rattle.std.specs.List.{list_any}
use Rattle.std.proofs.lemmas.Bool.{or_parts, cases_Bool, false≢true}
use Rattle.tac_request.specs.Argument.{is_sign, argument_of}

pub argument_of-none : (bytes : List ℕ) → list_any is_sign bytes ≡ false → argument_of bytes ≡ None
argument_of-none [] h = refl
argument_of-none (b ∷ bs) h =
    let parts = or_parts (is_sign b) (list_any is_sign bs) h in
    let signs = or_parts (eqb b 61) (eqb b 42) parts.0 in
    rw (signs.0, signs.1, argument_of-none bs parts.1) refl

-- the first byte of an argument is its sign
at_once : (b : ℕ) (bs : List ℕ) → is_sign b ≡ true → argument_of (b ∷ bs) ≡ Some (record { name = []; mandatory = eqb b 61; value = bs })
at_once b bs h =
    elim (cases_Bool (eqb b 61)) [
      | inl equals ↦ rw equals refl
      | inr other ↦
          elim (cases_Bool (eqb b 42)) [
            | inl star ↦ rw (other, star) refl
            | inr neither ↦ absurd (false≢true (rw (other, neither) at h))
          ]
    ]

pub argument_of_at : (bytes : List ℕ) (i : ℕ) → i < length bytes → list_any is_sign (take i bytes) ≡ false → is_sign (get_or bytes i 0) ≡ true
    → argument_of bytes ≡ Some (record { name = take i bytes; mandatory = eqb (get_or bytes i 0) 61; value = drop (suc i) bytes })
argument_of_at [] i lt before here = absurd (omega arith)
argument_of_at (b ∷ bs) zero lt before here = at_once b bs here
argument_of_at (b ∷ bs) (suc i) lt before here =
    let parts = or_parts (is_sign b) (list_any is_sign (take i bs)) before in
    let signs = or_parts (eqb b 61) (eqb b 42) parts.0 in
    rw (signs.0, signs.1, argument_of_at bs i (omega arith) parts.1 here) refl

-- the same, where the argument was split before its sign
pub argument_of_split : (bytes : List ℕ) (i : ℕ) (name rest : List ℕ) → i < length bytes → list_any is_sign (take i bytes) ≡ false → is_sign (get_or bytes i 0) ≡ true
    → name ≡ take i bytes → rest ≡ drop i bytes → argument_of bytes ≡ Some (record { name = name; mandatory = eqb (get_or bytes i 0) 61; value = take (length rest - 1) (drop 1 rest) })
argument_of_split bytes i name rest lt before here front back =
    let value : drop (suc i) bytes ≡ take (length rest - 1) (drop 1 rest) = rw (take_rest, back, drop-drop, add-one) refl in
    argument_of_at bytes i lt before here ∙ rw (front, value) refl
