-- How the first so many bytes begin.
use Rattle.std.proofs.Common.{◌≡◌, ℕ, zero, suc, ◌<◌, ◌≤◌, true, eqb, eq-eqb, List, [], ◌∷◌, ◌++◌, length, get_or, take, refl, sym, ◌∙◌, arith, inl, inr}
use Rattle.std.proofs.lemmas.Bool.{and_parts, and_from, cases_lt}
use Rattle.std.proofs.lemmas.List.{get_or-take, get_or_past, length-take}
use Rattle.tac_proxy.specs.Front.{agrees}

-- bytes that agree do so with fewer of them
pub agrees-take : (front w : List ℕ) (n : ℕ) → agrees front w ≡ true → agrees front (take n w) ≡ true
agrees-take [] w n h = refl
agrees-take (x ∷ front) [] zero h = refl
agrees-take (x ∷ front) [] (suc n) h = refl
agrees-take (x ∷ front) (y ∷ w) zero h = refl
agrees-take (x ∷ front) (y ∷ w) (suc n) h =
    let parts = and_parts (eqb y x) (agrees front w) h in
    and_from _ _ parts.0 (agrees-take front w n parts.1)

-- and with more of them, once all of the front is there
pub agrees-more : (front w : List ℕ) (n : ℕ) → length front ≤ n → agrees front (take n w) ≡ true → n ≤ length w → agrees front w ≡ true
agrees-more [] w n le h there = refl
agrees-more (x ∷ front) [] n le h there = refl
agrees-more (x ∷ front) (y ∷ w) zero le h there = absurd (omega arith)
agrees-more (x ∷ front) (y ∷ w) (suc n) le h there =
    let parts = and_parts (eqb y x) (agrees front (take n w)) h in
    and_from _ _ parts.0 (agrees-more front w n (omega arith) parts.1 (omega arith))

pub agrees-front : (front rest : List ℕ) → agrees front (front ++ rest) ≡ true
agrees-front [] rest = refl
agrees-front (x ∷ front) rest = and_from _ _ (eq-eqb x x refl) (agrees-front front rest)

-- a byte other than 0 among the first so many
pub read-take : (n : ℕ) (w : List ℕ) (i b : ℕ) → 0 < b → get_or (take n w) i 0 ≡ b → (i < n) × (get_or w i 0 ≡ b)
read-take n w i b some h =
    elim (cases_lt i n) [
      | inl lt ↦ (lt, sym (get_or-take n w i 0 lt) ∙ h)
      | inr le ↦
          let past : get_or (take n w) i 0 ≡ 0 = get_or_past (take n w) i 0 (omega (arith, length-take n w)) in
          absurd (omega arith)
    ]

pub read-within : (w : List ℕ) (i b : ℕ) → 0 < b → get_or w i 0 ≡ b → i < length w
read-within w i b some h =
    elim (cases_lt i (length w)) [
      | inl lt ↦ lt
      | inr le ↦ let past = get_or_past w i 0 le in absurd (omega arith)
    ]
