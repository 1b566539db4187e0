-- Equality of lists, item by item.
use Rattle.std.specs.Prelude.{◌≡◌, Bool, true, false, List, [], ◌∷◌, ◌&&◌, refl}
use Rattle.std.specs.Cmp.Lexicographic.{pointwise}

both : (a b : Bool) → (a && b) ≡ true → (a ≡ true) × (b ≡ true)
both true b h = (refl, h)
both false b h = absurd cc

-- where a test tells equal items, the test of lists item by item tells equal lists
pub pointwise-identical : {A : Type 0} {E : A → A → Bool} → ((x y : A) → E x y ≡ true → x ≡ y)
    → (xs ys : List A) → pointwise E xs ys ≡ true → xs ≡ ys
pointwise-identical tells [] [] h = refl
pointwise-identical tells [] (y ∷ ys) h = absurd cc
pointwise-identical tells (x ∷ xs) [] h = absurd cc
pointwise-identical {A} {E} tells (x ∷ xs) (y ∷ ys) h =
    let parts = both (E x y) (pointwise E xs ys) h in
    let head = tells x y parts.0 in
    let rest = pointwise-identical tells xs ys parts.1 in
    cc
