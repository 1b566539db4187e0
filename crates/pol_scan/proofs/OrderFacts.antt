-- The order of texts is strict and total, and goes on where symbols follow.
use Rattle.std.proofs.Common.{◌≡◌, ◌⊎◌, ◌<◌, ◌≤◌, ℕ, List, [], ◌∷◌, ◌++◌, length, refl, sym, ◌∙◌, inl, inr, arith, length-append}
use Rattle.std.proofs.lemmas.Bool.{cases_lt}
use Rattle.basics.specs.TextOrder.{IsLower, IsBefore}

-- ---- the lower symbol where texts differ first

lower_irreflexive : (t : List ℕ) → ¬ (IsLower t t)
lower_irreflexive [] h = h
lower_irreflexive (x ∷ t) (inl h) = omega arith
lower_irreflexive (x ∷ t) (inr h) = lower_irreflexive t h.1

lower_transitive : (t u v : List ℕ) → IsLower t u → IsLower u v → IsLower t v
lower_transitive [] u v h k = absurd h
lower_transitive (x ∷ t) [] v h k = absurd h
lower_transitive (x ∷ t) (y ∷ u) [] h k = absurd k
lower_transitive (x ∷ t) (y ∷ u) (z ∷ v) (inl h) (inl k) = inl (omega arith)
lower_transitive (x ∷ t) (y ∷ u) (z ∷ v) (inl h) (inr k) = inl (omega (arith, k.0))
lower_transitive (x ∷ t) (y ∷ u) (z ∷ v) (inr h) (inl k) = inl (omega (arith, h.0))
lower_transitive (x ∷ t) (y ∷ u) (z ∷ v) (inr h) (inr k) = inr (h.0 ∙ k.0, lower_transitive t u v h.1 k.1)

lower_total : (t u : List ℕ) → length t ≡ length u → IsLower t u ⊎ (t ≡ u) ⊎ IsLower u t
lower_total [] [] e = inr (inl refl)
lower_total [] (y ∷ u) e = absurd (omega arith)
lower_total (x ∷ t) [] e = absurd (omega arith)
lower_total (x ∷ t) (y ∷ u) e = by (lower_total t u (omega arith)) (cases_lt x y)
  where
    after : x ≡ y → IsLower t u ⊎ (t ≡ u) ⊎ IsLower u t → IsLower (x ∷ t) (y ∷ u) ⊎ (x ∷ t ≡ y ∷ u) ⊎ IsLower (y ∷ u) (x ∷ t)
    after q (inl h) = inl (inr (q, h))
    after q (inr (inl h)) = inr (inl cc)
    after q (inr (inr h)) = inr (inr (inr (sym q, h)))

    other : IsLower t u ⊎ (t ≡ u) ⊎ IsLower u t → y ≤ x → (y < x) ⊎ (x ≤ y) → IsLower (x ∷ t) (y ∷ u) ⊎ (x ∷ t ≡ y ∷ u) ⊎ IsLower (y ∷ u) (x ∷ t)
    other rest k (inl h) = inr (inr (inl h))
    other rest k (inr h) = after (omega arith) rest

    by : IsLower t u ⊎ (t ≡ u) ⊎ IsLower u t → (x < y) ⊎ (y ≤ x) → IsLower (x ∷ t) (y ∷ u) ⊎ (x ∷ t ≡ y ∷ u) ⊎ IsLower (y ∷ u) (x ∷ t)
    by rest (inl h) = inl (inl h)
    by rest (inr k) = other rest k (cases_lt y x)

-- what follows the place where they differ changes nothing
lower_append : (t u v w : List ℕ) → IsLower t u → IsLower (t ++ v) (u ++ w)
lower_append [] u v w h = absurd h
lower_append (x ∷ t) [] v w h = absurd h
lower_append (x ∷ t) (y ∷ u) v w (inl h) = inl h
lower_append (x ∷ t) (y ∷ u) v w (inr h) = inr (h.0, lower_append t u v w h.1)

-- nor does what stands before it
append_lower : (t u v : List ℕ) → IsLower u v → IsLower (t ++ u) (t ++ v)
append_lower [] u v h = h
append_lower (x ∷ t) u v h = inr (refl, append_lower t u v h)

-- texts of one length with one more symbol each differ in front of it, or only there
lower_pushed : (t u : List ℕ) (a b : ℕ) → length t ≡ length u → IsLower (t ++ a ∷ []) (u ++ b ∷ []) → IsLower t u ⊎ ((t ≡ u) × (a < b))
lower_pushed [] [] a b e (inl h) = inr (refl, h)
lower_pushed [] [] a b e (inr h) = absurd h.1
lower_pushed [] (y ∷ u) a b e h = absurd (omega arith)
lower_pushed (x ∷ t) [] a b e h = absurd (omega arith)
lower_pushed (x ∷ t) (y ∷ u) a b e (inl h) = inl (inl h)
lower_pushed (x ∷ t) (y ∷ u) a b e (inr h) = by (lower_pushed t u a b (omega arith) h.1)
  where
    by : IsLower t u ⊎ ((t ≡ u) × (a < b)) → IsLower (x ∷ t) (y ∷ u) ⊎ ((x ∷ t ≡ y ∷ u) × (a < b))
    by (inl k) = inl (inr (h.0, k))
    by (inr k) = inr (cc, k.1)

-- ---- the order

pub before_irreflexive : (t : List ℕ) → ¬ (IsBefore t t)
before_irreflexive t (inl h) = omega arith
before_irreflexive t (inr h) = lower_irreflexive t h.1

pub before_transitive : (t u v : List ℕ) → IsBefore t u → IsBefore u v → IsBefore t v
before_transitive t u v (inl h) (inl k) = inl (omega arith)
before_transitive t u v (inl h) (inr k) = inl (omega (arith, k.0))
before_transitive t u v (inr h) (inl k) = inl (omega (arith, h.0))
before_transitive t u v (inr h) (inr k) = inr (h.0 ∙ k.0, lower_transitive t u v h.1 k.1)

pub before_total : (t u : List ℕ) → IsBefore t u ⊎ (t ≡ u) ⊎ IsBefore u t
before_total t u = by (cases_lt (length t) (length u))
  where
    rest : length t ≡ length u → IsLower t u ⊎ (t ≡ u) ⊎ IsLower u t → IsBefore t u ⊎ (t ≡ u) ⊎ IsBefore u t
    rest e (inl h) = inl (inr (e, h))
    rest e (inr (inl h)) = inr (inl h)
    rest e (inr (inr h)) = inr (inr (inr (sym e, h)))

    same : (length u < length t) ⊎ (length t ≤ length u) → length u ≤ length t → IsBefore t u ⊎ (t ≡ u) ⊎ IsBefore u t
    same (inl h) k = inr (inr (inl h))
    same (inr h) k = let e : length t ≡ length u = omega arith in rest e (lower_total t u e)

    by : (length t < length u) ⊎ (length u ≤ length t) → IsBefore t u ⊎ (t ≡ u) ⊎ IsBefore u t
    by (inl h) = inl (inl h)
    by (inr k) = same (cases_lt (length u) (length t)) k

-- an earlier text stays earlier, whichever symbol follows each
pub before_push : (t u : List ℕ) (a b : ℕ) → IsBefore t u → IsBefore (t ++ a ∷ []) (u ++ b ∷ [])
before_push t u a b (inl h) = inl (simp length-append (omega arith))
before_push t u a b (inr h) = inr (simp length-append (omega (arith, h.0)), lower_append t u (a ∷ []) (b ∷ []) h.1)

-- a text with the lower symbol after it comes earlier
pub push_before : (t : List ℕ) (a b : ℕ) → a < b → IsBefore (t ++ a ∷ []) (t ++ b ∷ [])
push_before t a b h = inr (simp length-append, append_lower t (a ∷ []) (b ∷ []) (inl h))

-- and no others come earlier
pub before_pushed : (t u : List ℕ) (a b : ℕ) → IsBefore (t ++ a ∷ []) (u ++ b ∷ []) → IsBefore t u ⊎ ((t ≡ u) × (a < b))
before_pushed t u a b (inl h) = inl (inl (omega (arith, simp length-append at h)))
before_pushed t u a b (inr h) = by e (lower_pushed t u a b e h.1)
  where
    e : length t ≡ length u
    e = omega (arith, simp length-append at h.0)

    by : length t ≡ length u → IsLower t u ⊎ ((t ≡ u) × (a < b)) → IsBefore t u ⊎ ((t ≡ u) × (a < b))
    by q (inl k) = inl (inr (q, k))
    by q (inr k) = inr k
