-- Lists side by side.
use Rattle.std.proofs.Common.{◌≡◌, ◌<◌, ◌+◌, ℕ, zero, suc, List, [], ◌∷◌, ◌++◌, length, get_or, take, refl, sym, subst, ap, ◌∙◌, arith, rules}
use Rattle.std.proofs.lemmas.List.{take_more}
use Rattle.std.specs.Prelude.{All}
use Rattle.std.specs.List.{AllZip, slice_index_or}
use Rattle.std.proofs.lemmas.List.Elements.{All-nil, All-cons}

pub zip_length : {A B : Type 0} (R : A → B → Type 0) (xs : List A) (ys : List B) → AllZip R xs ys → length xs ≡ length ys
zip_length R [] [] z = refl
zip_length R [] (b ∷ ys) z = absurd z
zip_length R (a ∷ xs) [] z = absurd z
zip_length R (a ∷ xs) (b ∷ ys) z = ap suc (zip_length R xs ys z.1)

-- what stands between, at one place
pub zip_through : {A B C : Type 0} (R : A → B → Type 0) (Q : B → C → Type 0) (xs : List A) (ys : List B) (zs : List C) (i : ℕ) (d : A) (f : C) → AllZip R xs ys → AllZip Q ys zs → i < length xs
    → (y : B) × R (slice_index_or xs i d) y × Q y (slice_index_or zs i f)
zip_through R Q [] ys zs i d f p q lt = absurd (omega arith)
zip_through R Q (x ∷ xs) [] zs i d f p q lt = absurd p
zip_through R Q (x ∷ xs) (y ∷ ys) [] i d f p q lt = absurd q
zip_through R Q (x ∷ xs) (y ∷ ys) (z ∷ zs) zero d f p q lt = (y, p.0, q.0)
zip_through R Q (x ∷ xs) (y ∷ ys) (z ∷ zs) (suc i) d f p q lt = zip_through R Q xs ys zs i d f p.1 q.1 (omega arith)

pub zip_all : {A B : Type 0} (R : A → B → Type 0) (P : B → Type 0) → ((x : A) (y : B) → R x y → P y) → (xs : List A) (ys : List B) → AllZip R xs ys → All P ys
zip_all R P each [] [] z = All-nil P
zip_all R P each [] (y ∷ ys) z = absurd z
zip_all R P each (x ∷ xs) [] z = absurd z
zip_all R P each (x ∷ xs) (y ∷ ys) z = All-cons P y ys (each x y z.0) (zip_all R P each xs ys z.1)

pub zip_push : {A B : Type 0} (R : A → B → Type 0) (xs : List A) (ys : List B) (x : A) (y : B) → AllZip R xs ys → R x y → AllZip R (xs ++ x ∷ []) (ys ++ y ∷ [])
zip_push R [] [] x y z r = (r, search rules)
zip_push R [] (b ∷ ys) x y z r = absurd z
zip_push R (a ∷ xs) [] x y z r = absurd z
zip_push R (a ∷ xs) (b ∷ ys) x y z r = (z.0, zip_push R xs ys x y z.1 r)

pub zip_more : {A B : Type 0} (R : A → B → Type 0) (xs : List A) (ys : List B) (i : ℕ) (x : A) (y : B) → i < length xs → x ≡ get_or xs i x → AllZip R (take i xs) ys → R x y
    → AllZip R (take (i + 1) xs) (ys ++ y ∷ [])
zip_more R xs ys i x y lt is z r =
    let whole : take (i + 1) xs ≡ take i xs ++ x ∷ [] = take_more xs i x lt ∙ ap (λ w. take i xs ++ w ∷ []) (sym is) in
    subst (λ l. AllZip R l (ys ++ y ∷ [])) (sym whole) (zip_push R (take i xs) ys x y z r)
