-- Places in a list at which some entries stand.
use Rattle.std.proofs.Common.{◌≡◌, ℕ, zero, suc, ◌+◌, ◌<◌, Bool, true, false, eqb, ltb, ◌&&◌, ◌||◌, List, [], ◌∷◌, ◌++◌, length, take, get_or, refl, sym, ap, ◌∙◌, arith}
use Rattle.std.specs.List.{list_any, All}
use Rattle.std.specs.Str.{bytes_eq}
use Rattle.std.proofs.lemmas.Bool.{or_parts, eq-eqb, le-ltb, lt-ltb}
use Rattle.std.proofs.lemmas.List.Elements.{All-from_get_or}
use Rattle.std.proofs.lemmas.List.{take_more}
use Rattle.std.proofs.lemmas.List.Folds.{list_any-append, list_any_at, list_any_more}
use Rattle.tac_tally.specs.Book.{Entry}
use Rattle.tac_tally.specs.Accounts.{is_by, stands_at, ArePlaces}
use Rattle.tac_tally.specs.Recount.{is_one_of}

-- the first of a list, and the next of them
pub seen-more : {X : Type 0} (all items : List X) (i : ℕ) (x : X) → items ≡ all → i < length items → x ≡ get_or items i x → take (i + 1) all ≡ take i all ++ x ∷ []
seen-more all items i x same lt is =
    let here : i < length all = rw (← same) lt in
    take_more all i x here ∙ ap (λ y. take i all ++ y ∷ []) (sym (rw same at is))

or_false : (b : Bool) → b ≡ (b || false)
or_false true = refl
or_false false = refl

eqb-suc : (a b : ℕ) → eqb (suc a) (suc b) ≡ eqb a b
eqb-suc a b = grind (arith)

-- one more entry, after the others
pub stands_at-push : (test : Entry → Bool) (xs : List Entry) (e : Entry) (place : ℕ) → stands_at test (xs ++ e ∷ []) place ≡ (stands_at test xs place || (eqb place (length xs) && test e))
stands_at-push test [] e zero = refl
stands_at-push test [] e (suc place) =
    let apart : eqb (suc place) 0 ≡ false = grind (arith) in
    rw apart refl
stands_at-push test (x ∷ xs) e zero =
    let apart : eqb 0 (suc (length xs)) ≡ false = grind (arith) in
    rw apart (or_false (test x))
stands_at-push test (x ∷ xs) e (suc place) = rw (eqb-suc place (length xs)) (stands_at-push test xs e place)

no_more : (a b c : Bool) → c ≡ false → (a || (b && c)) ≡ a
no_more true b c n = refl
no_more false true c n = n
no_more false false c n = refl

one_more : (a b c : Bool) → c ≡ true → (a || (b || false)) ≡ (a || (b && c))
one_more true b c y = refl
one_more false true c y = sym y
one_more false false c y = refl

-- the places stay where the entry isn't such a one, and else its place is one more
pub places-other : (test : Entry → Bool) (xs : List Entry) (e : Entry) (places : List ℕ) → test e ≡ false → ArePlaces test xs places → ArePlaces test (xs ++ e ∷ []) places
places-other test xs e places none h place = h place ∙ sym (stands_at-push test xs e place ∙ no_more (stands_at test xs place) (eqb place (length xs)) (test e) none)

pub places-own : (test : Entry → Bool) (xs : List Entry) (e : Entry) (places : List ℕ) → test e ≡ true → ArePlaces test xs places → ArePlaces test (xs ++ e ∷ []) (places ++ length xs ∷ [])
places-own test xs e places own h place =
    list_any-append (eqb place) places (length xs ∷ []) ∙ ap (λ b. b || (eqb place (length xs) || false)) (h place)
    ∙ one_more (stands_at test xs place) (eqb place (length xs)) (test e) own ∙ sym (stands_at-push test xs e place)

-- where none is such an entry, none stands anywhere
pub stands_at-none : (test : Entry → Bool) (xs : List Entry) → list_any test xs ≡ false → (place : ℕ) → stands_at test xs place ≡ false
stands_at-none test [] none place = refl
stands_at-none test (x ∷ xs) none zero = (or_parts (test x) (list_any test xs) none).0
stands_at-none test (x ∷ xs) none (suc place) = stands_at-none test xs (or_parts (test x) (list_any test xs) none).1 place

-- an entry stands within the list
pub stands_at-within : (test : Entry → Bool) (xs : List Entry) (place : ℕ) → stands_at test xs place ≡ true → place < length xs
stands_at-within test [] place is = cc
stands_at-within test (x ∷ xs) zero is = omega arith
stands_at-within test (x ∷ xs) (suc place) is = let h = stands_at-within test xs place is in omega (arith, h)

-- any entry stands at the places of the list
pub stands_at-all : (xs : List Entry) (place : ℕ) → stands_at (λ entry. true) xs place ≡ ltb place (length xs)
stands_at-all [] place = sym (le-ltb place 0 (omega arith))
stands_at-all (x ∷ xs) zero = sym (lt-ltb 0 (suc (length xs)) (omega arith))
stands_at-all (x ∷ xs) (suc place) = stands_at-all xs place ∙ grind (arith)

-- such an entry or such a one
stands_at-or : (one two : Entry → Bool) (xs : List Entry) (place : ℕ) → stands_at (λ e. one e || two e) xs place ≡ (stands_at one xs place || stands_at two xs place)
stands_at-or one two [] place = refl
stands_at-or one two (x ∷ xs) zero = refl
stands_at-or one two (x ∷ xs) (suc place) = stands_at-or one two xs place

-- the same test of each entry
stands_at-same : (one two : Entry → Bool) → ((e : Entry) → one e ≡ two e) → (xs : List Entry) (place : ℕ) → stands_at one xs place ≡ stands_at two xs place
stands_at-same one two same [] place = refl
stands_at-same one two same (x ∷ xs) zero = same x
stands_at-same one two same (x ∷ xs) (suc place) = stands_at-same one two same xs place

stands_at-never : (xs : List Entry) (place : ℕ) → stands_at (λ entry. false) xs place ≡ false
stands_at-never [] place = refl
stands_at-never (x ∷ xs) zero = refl
stands_at-never (x ∷ xs) (suc place) = stands_at-never xs place

-- the places are within the list
pub places-within : (test : Entry → Bool) (xs : List Entry) (places : List ℕ) → ArePlaces test xs places → All (λ place. place < length xs) places
places-within test xs places are = All-from_get_or (λ place. place < length xs) places 0 (λ i lt.
    let place = get_or places i 0 in
    let listed = list_any_at (eqb place) places i 0 lt (eq-eqb place place refl) in
    stands_at-within test xs place (sym (are place) ∙ listed))

-- ---- of some users

pub places-none : (xs : List Entry) (places : List ℕ) → places ≡ [] → ArePlaces (λ entry. false) xs places
places-none xs places is place = rw is (sym (stands_at-never xs place))

pub places-absent : (user : List ℕ) (xs : List Entry) → list_any (is_by user) xs ≡ false → ArePlaces (is_by user) xs []
places-absent user xs none place = sym (stands_at-none (is_by user) xs none place)

pub places-more : (users : List (List ℕ)) (i : ℕ) (user : List ℕ) (xs : List Entry) (places more : List ℕ) → i < length users → user ≡ get_or users i user
    → ArePlaces (λ e. is_one_of (take i users) e.item.user) xs places → ArePlaces (is_by user) xs more → ArePlaces (λ e. is_one_of (take (i + 1) users) e.item.user) xs (places ++ more)
places-more users i user xs places more lt is h own place =
    let seen : Entry → Bool = λ e. is_one_of (take i users) e.item.user in
    let all : Entry → Bool = λ e. is_one_of (take (i + 1) users) e.item.user in
    let same : (e : Entry) → (seen e || is_by user e) ≡ all e =
    λ e. ap (λ u. seen e || bytes_eq e.item.user u) is ∙ sym (list_any_more (bytes_eq e.item.user) users i user lt) in
    list_any-append (eqb place) places more ∙ ap (λ b. b || list_any (eqb place) more) (h place) ∙ ap (λ b. stands_at seen xs place || b) (own place)
    ∙ sym (stands_at-or seen (is_by user) xs place) ∙ stands_at-same (λ e. seen e || is_by user e) all same xs place
