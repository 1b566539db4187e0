-- Lists side by side, and the element at a place.
use Rattle.std.proofs.Common.{◌≡◌, ◌<◌, ℕ, zero, suc, Some, List, [], ◌∷◌, ◌++◌, length, refl, ap, arith, rules}
use Rattle.std.specs.List.{AllZip, slice_get, slice_index_or}

pub zip_push : {A B : Type 0} (R : A → B → Type 0) (xs : List A) (ys : List B) (x : A) (y : B) → AllZip R xs ys → R x y → AllZip R (xs ++ x ∷ []) (ys ++ y ∷ [])
zip_push R [] [] x y z r = (r, search rules)
zip_push R [] (b ∷ ys) x y z r = absurd z
zip_push R (a ∷ xs) [] x y z r = absurd z
zip_push R (a ∷ xs) (b ∷ ys) x y z r = (z.0, zip_push R xs ys x y z.1 r)

pub zip_weaker : {A B : Type 0} (R Q : A → B → Type 0) → ((x : A) (y : B) → R x y → Q x y) → (xs : List A) (ys : List B) → AllZip R xs ys → AllZip Q xs ys
zip_weaker R Q w [] [] z = z
zip_weaker R Q w [] (b ∷ ys) z = absurd z
zip_weaker R Q w (a ∷ xs) [] z = absurd z
zip_weaker R Q w (a ∷ xs) (b ∷ ys) z = (w a b z.0, zip_weaker R Q w xs ys z.1)

pub length-zip : {A B : Type 0} (R : A → B → Type 0) (xs : List A) (ys : List B) → AllZip R xs ys → length xs ≡ length ys
length-zip R [] [] z = refl
length-zip R [] (b ∷ ys) z = absurd z
length-zip R (a ∷ xs) [] z = absurd z
length-zip R (a ∷ xs) (b ∷ ys) z = ap suc (length-zip R xs ys z.1)

pub zip_at : {A B : Type 0} (R : A → B → Type 0) (xs : List A) (ys : List B) (i : ℕ) (d : A) (e : B) → AllZip R xs ys → i < length ys → R (slice_index_or xs i d) (slice_index_or ys i e)
zip_at R [] [] i d e z h = absurd (omega arith)
zip_at R [] (b ∷ ys) i d e z h = absurd z
zip_at R (a ∷ xs) [] i d e z h = absurd z
zip_at R (a ∷ xs) (b ∷ ys) zero d e z h = z.0
zip_at R (a ∷ xs) (b ∷ ys) (suc i) d e z h = zip_at R xs ys i d e z.1 (omega arith)

pub get_within : {X : Type 0} (xs : List X) (i : ℕ) (x : X) → slice_get xs i ≡ Some x → i < length xs
get_within [] i x e = absurd cc
get_within (y ∷ xs) zero x e = omega arith
get_within (y ∷ xs) (suc i) x e = omega (arith, get_within xs i x e)

pub get_is : {X : Type 0} (xs : List X) (i : ℕ) (x d : X) → slice_get xs i ≡ Some x → slice_index_or xs i d ≡ x
get_is [] i x d e = absurd cc
get_is (y ∷ xs) zero x d e = cc
get_is (y ∷ xs) (suc i) x d e = get_is xs i x d e
