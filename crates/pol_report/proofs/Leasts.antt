-- Least lines, and lists by their places.
use Rattle.std.proofs.Common.{◌≡◌, ◌⊎◌, ◌<◌, ◌≤◌, ℕ, zero, suc, Bool, true, false, cond, map, filter, take, get_or, List, [], ◌∷◌, ◌++◌, length, Option, Some, None, refl, sym, ap, subst, inl, inr, arith, slice_get}
use Rattle.std.specs.Prelude.{IfSome, IfNone}
use Rattle.std.specs.Option.{option_map}
use Rattle.std.proofs.lemmas.Bool.{cases_lt}
use Rattle.basics.specs.TextOrder.{IsLower, IsBefore, IsLeast}
use Rattle.pol_meaning.specs.Reach.{IsLeastIfAny}

-- what holds of the same lines has the same least line
pub least_same : (P Q : List ℕ → Type 0) → ((line : List ℕ) → P line → Q line) → ((line : List ℕ) → Q line → P line) → (line : List ℕ) → IsLeast P line → IsLeast Q line
least_same P Q there back line h = (there line h.0, λ other q. h.1 other (back other q))

-- texts of which neither comes before the other are the same
lower_neither : (t u : List ℕ) → length t ≡ length u → ¬ (IsLower t u) → ¬ (IsLower u t) → t ≡ u
lower_neither [] [] e p q = refl
lower_neither [] (y ∷ u) e p q = absurd (omega arith)
lower_neither (x ∷ t) [] e p q = absurd (omega arith)
lower_neither (x ∷ t) (y ∷ u) e p q = by (lower_neither t u (omega arith)) (cases_lt x y) (cases_lt y x)
  where
    by : (¬ (IsLower t u) → ¬ (IsLower u t) → t ≡ u) → (x < y) ⊎ (y ≤ x) → (y < x) ⊎ (x ≤ y) → x ∷ t ≡ y ∷ u
    by later (inl h) r = absurd (p (inl h))
    by later (inr h) (inl k) = absurd (q (inl k))
    by later (inr h) (inr k) =
        let same : x ≡ y = omega arith in
        let rest : t ≡ u = later (λ l. p (inr (same, l))) (λ l. q (inr (sym same, l))) in
        cc

before_neither : (t u : List ℕ) → ¬ (IsBefore t u) → ¬ (IsBefore u t) → t ≡ u
before_neither t u p q = by (cases_lt (length t) (length u)) (cases_lt (length u) (length t))
  where
    by : (length t < length u) ⊎ (length u ≤ length t) → (length u < length t) ⊎ (length t ≤ length u) → t ≡ u
    by (inl h) r = absurd (p (inl h))
    by (inr h) (inl k) = absurd (q (inl k))
    by (inr h) (inr k) =
        let same : length t ≡ length u = omega arith in
        lower_neither t u same (λ l. p (inr (same, l))) (λ l. q (inr (sym same, l)))

least_unique : (P : List ℕ → Type 0) (a b : List ℕ) → IsLeast P a → IsLeast P b → a ≡ b
least_unique P a b h k = before_neither a b (k.1 a h.0) (h.1 b k.0)

pub if_any_unique : (P : List ℕ → Type 0) (a b : Option (List ℕ)) → IsLeastIfAny P a → IsLeastIfAny P b → a ≡ b
if_any_unique P None None h k = refl
if_any_unique P None (Some b) h k = absurd (h b k.0)
if_any_unique P (Some a) None h k = absurd (k a h.0)
if_any_unique P (Some a) (Some b) h k = ap Some (least_unique P a b h k)

-- ---- lists by their places

-- in front of the last, or the last
pub get_push : {X : Type 0} (xs : List X) (x : X) (k : ℕ) (y : X) → slice_get (xs ++ x ∷ []) k ≡ Some y → (slice_get xs k ≡ Some y) ⊎ ((k ≡ length xs) × (x ≡ y))
get_push [] x zero y e = inr (refl, cc)
get_push [] x (suc k) y e = absurd cc
get_push (z ∷ xs) x zero y e = inl e
get_push (z ∷ xs) x (suc k) y e = by (get_push xs x k y e)
  where
    by : (slice_get xs k ≡ Some y) ⊎ ((k ≡ length xs) × (x ≡ y)) → (slice_get xs k ≡ Some y) ⊎ ((suc k ≡ suc (length xs)) × (x ≡ y))
    by (inl h) = inl h
    by (inr h) = inr (ap suc h.0, h.1)

pub get_within : {X : Type 0} (xs : List X) (k : ℕ) (x : X) → slice_get xs k ≡ Some x → k < length xs
get_within [] k x e = absurd cc
get_within (y ∷ xs) zero x e = omega arith
get_within (y ∷ xs) (suc k) x e = let below = get_within xs k x e in omega arith

pub has_at : {X : Type 0} (xs : List X) (k : ℕ) → k < length xs → (x : X) × (slice_get xs k ≡ Some x)
has_at [] k lt = absurd (omega arith)
has_at (x ∷ xs) zero lt = (x, refl)
has_at (x ∷ xs) (suc k) lt = has_at xs k (omega arith)

-- lists of one length are the same if they are at each place
pub same_places : {X : Type 0} (xs ys : List X) → length xs ≡ length ys → ((k : ℕ) (x y : X) → slice_get xs k ≡ Some x → slice_get ys k ≡ Some y → x ≡ y) → xs ≡ ys
same_places [] [] e same = refl
same_places [] (y ∷ ys) e same = absurd (omega arith)
same_places (x ∷ xs) [] e same = absurd (omega arith)
same_places (x ∷ xs) (y ∷ ys) e same =
    let first : x ≡ y = same 0 x y refl refl in
    let rest = same_places xs ys (omega arith) (λ k a b h j. same (suc k) a b h j) in
    cc

pub take_all : {X : Type 0} (xs : List X) (i : ℕ) → length xs ≤ i → take i xs ≡ xs
take_all [] zero le = refl
take_all [] (suc i) le = refl
take_all (x ∷ xs) zero le = absurd (omega arith)
take_all (x ∷ xs) (suc i) le = ap (λ rest. x ∷ rest) (take_all xs i (omega arith))

-- one more element, if it passes the test
pub filter_more : {X Y : Type 0} (test : X → Bool) (f : X → Y) (xs : List X) (i : ℕ) (x : X) → i < length xs → get_or xs i x ≡ x
    → map f (filter test (take (suc i) xs)) ≡ map f (filter test (take i xs)) ++ cond (test x) (f x ∷ []) []
filter_more test f [] i x lt at = absurd (omega arith)
filter_more {X} {Y} test f (z ∷ xs) zero x lt at = subst (λ (z : X). map f (filter test (z ∷ [])) ≡ cond (test x) (f x ∷ []) []) (sym at) (by (test x))
  where
    by : (b : Bool) → map f (cond b (x ∷ []) []) ≡ cond b (f x ∷ []) []
    by true = refl
    by false = refl
filter_more {X} {Y} test f (z ∷ xs) (suc i) x lt at = by (test z) (filter_more test f xs i x (omega arith) at)
  where
    by : (b : Bool) → map f (filter test (take (suc i) xs)) ≡ map f (filter test (take i xs)) ++ cond (test x) (f x ∷ []) []
        → map f (cond b (z ∷ filter test (take (suc i) xs)) (filter test (take (suc i) xs))) ≡ map f (cond b (z ∷ filter test (take i xs)) (filter test (take i xs))) ++ cond (test x) (f x ∷ []) []
    by true h = ap (λ (rest : List Y). f z ∷ rest) h
    by false h = h

pub if_any_same : (P Q : List ℕ → Type 0) → ((line : List ℕ) → P line → Q line) → ((line : List ℕ) → Q line → P line) → (text : Option (List ℕ)) → IsLeastIfAny P text → IsLeastIfAny Q text
if_any_same P Q there back None h = λ line q. h line (back line q)
if_any_same P Q there back (Some text) h = least_same P Q there back text h

-- what was found, in another form
pub if_any : {V : Type 0} (P : List ℕ → Type 0) (f : V → List ℕ) (found : Option V) → IfSome found (λ v. IsLeast P (f v)) → IfNone found ((t : List ℕ) → ¬ (P t)) → IsLeastIfAny P (option_map f found)
if_any P f None some none = none
if_any P f (Some text) some none = some
