-- Classes: what a tree spells is taken from the front of the bytes, and what is taken is spelled.
use Rattle.std.proofs.Common.{◌≡◌, ℕ, suc, ◌+◌, ◌-◌, Bool, true, false, not, ◌&&◌, ◌||◌, nat_le, eqb, leb, List, [], ◌∷◌, ◌++◌, map, length, drop, slice_index, Some, refl, sym, ap, ap₂, ◌∙◌, inl, inr, append_assoc, append-nil, subst, true≢false, length-append, arith}
use Rattle.std.specs.List.{list_any, list_all}
use Rattle.std.proofs.lemmas.Bool.{and_parts, and_from, eqb-true, eqb-false, not-true, cases_Bool, le-leb}
use Rattle.basics.specs.Symbol.{is_symbol}
use Rattle.pol_pattern.specs.Flat.{Class, class_where, numbers_from}
use Rattle.pol_pattern.specs.Spelling.{ClassSymbol, plain, quoted, Item, one, range, class_symbol_bytes, item_bytes, items_bytes, negation_bytes, is_right_class_symbol, class_symbol, is_right_item, begins_with_caret, names, bracket_class}
use Rattle.pol_pattern.specs.Reading.{class_symbol_at, item_at, items_from, is_among, class_of_items, class_at}

-- ---- the class of items

abbrev pub item_ends : Item → ℕ × ℕ
item_ends (one symbol) = (class_symbol symbol, class_symbol symbol)
item_ends (range first final) = (class_symbol first, class_symbol final)

within_one : (byte symbol : ℕ) → (nat_le symbol byte && nat_le byte symbol) ≡ (eqb byte symbol)
within_one byte symbol =
    elim (cases_Bool (eqb byte symbol)) [
      | inl same ↦
          let e = eqb-true byte symbol same in
          and_from (leb symbol byte) (leb byte symbol) (le-leb symbol byte (omega arith)) (le-leb byte symbol (omega arith)) ∙ sym same
      | inr other ↦ grind (arith, eqb-false byte symbol other)
    ]

among_items : (byte : ℕ) (items : List Item) → is_among (map item_ends items) byte ≡ list_any (names byte) items
among_items byte [] = refl
among_items byte (one symbol ∷ items) = ap₂ (λ (a b : Bool). a || b) (within_one byte (class_symbol symbol)) (among_items byte items)
among_items byte (range first final ∷ items) =
    ap (λ (b : Bool). (nat_le (class_symbol first) byte && nat_le byte (class_symbol final)) || b) (among_items byte items)

map_same : (f g : ℕ → Bool) → ((x : ℕ) → f x ≡ g x) → (xs : List ℕ) → map f xs ≡ map g xs
map_same f g same [] = refl
map_same f g same (x ∷ xs) = ap₂ (λ (y : Bool) (ys : List Bool). y ∷ ys) (same x) (map_same f g same xs)

class_same : (f g : ℕ → Bool) → ((x : ℕ) → f x ≡ g x) → class_where f ≡ class_where g
unfolding class_where
class_same f g same = map_same f g same (numbers_from 0x20 95)

pub class_of_ends : (negated : Bool) (items : List Item) → class_of_items negated (map item_ends items) ≡ bracket_class negated items
class_of_ends true items = class_same _ _ (λ byte. ap not (among_items byte items))
class_of_ends false items = class_same _ _ (λ byte. among_items byte items)

-- ---- what is spelled is taken

none_of : (a b c : Bool) → not (a || b || c) ≡ true → (a ≡ false) × (b ≡ false) × (c ≡ false)
none_of true b c h = absurd (true≢false (sym h))
none_of false true c h = absurd (true≢false (sym h))
none_of false false true h = absurd (true≢false (sym h))
none_of false false false h = (refl, refl, refl)

plain_apart : (symbol : ℕ) → is_right_class_symbol (plain symbol) ≡ true → (eqb symbol 93 ≡ false) × (eqb symbol 92 ≡ false) × (eqb symbol 45 ≡ false)
plain_apart symbol right =
    none_of (eqb symbol 93) (eqb symbol 92) (eqb symbol 45) (and_parts (is_symbol symbol) (not (eqb symbol 93 || eqb symbol 92 || eqb symbol 45)) right).1

symbol_taken : (tree : ClassSymbol) (rest : List ℕ) → is_right_class_symbol tree ≡ true
    → class_symbol_at (class_symbol_bytes tree ++ rest) ≡ Some (class_symbol tree, length (class_symbol_bytes tree))
unfolding class_symbol_at
symbol_taken (plain symbol) rest right =
    let apart = plain_apart symbol right in
    rw (apart.1, apart.0, apart.2) refl
symbol_taken (quoted symbol) rest right = refl

one_taken : (bytes : List ℕ) (a n : ℕ) → class_symbol_at bytes ≡ Some (a, n) → eqb (slice_index bytes n) 45 ≡ false → item_at bytes ≡ Some ((a, a), n)
unfolding item_at
one_taken bytes a n first dash = rw (first, dash) refl

range_taken : (bytes : List ℕ) (a n b m : ℕ) → class_symbol_at bytes ≡ Some (a, n) → eqb (slice_index bytes n) 45 ≡ true → class_symbol_at (drop (n + 1) bytes) ≡ Some (b, m) → leb a b ≡ true
    → item_at bytes ≡ Some ((a, b), n + 1 + m)
unfolding item_at
range_taken bytes a n b m first dash final le = rw (first, dash, final, le) refl

item_taken : (tree : Item) (rest : List ℕ) → is_right_item tree ≡ true → eqb (slice_index rest 0) 45 ≡ false → item_at (item_bytes tree ++ rest) ≡ Some (item_ends tree, length (item_bytes tree))
item_taken (one (plain x)) rest right dash = one_taken (x ∷ rest) x 1 (symbol_taken (plain x) rest right) dash
item_taken (one (quoted x)) rest right dash = one_taken (92 ∷ x ∷ rest) x 2 (symbol_taken (quoted x) rest right) dash
item_taken (range (plain x) (plain y)) rest right dash =
    let outer = and_parts (is_right_class_symbol (plain x) && is_right_class_symbol (plain y)) (leb x y) right in
    let inner = and_parts (is_right_class_symbol (plain x)) (is_right_class_symbol (plain y)) outer.0 in
    range_taken (x ∷ 45 ∷ y ∷ rest) x 1 y 1 (symbol_taken (plain x) (45 ∷ y ∷ rest) inner.0) refl (symbol_taken (plain y) rest inner.1) outer.1
item_taken (range (plain x) (quoted y)) rest right dash =
    let outer = and_parts (is_right_class_symbol (plain x) && is_right_class_symbol (quoted y)) (leb x y) right in
    let inner = and_parts (is_right_class_symbol (plain x)) (is_right_class_symbol (quoted y)) outer.0 in
    range_taken (x ∷ 45 ∷ 92 ∷ y ∷ rest) x 1 y 2 (symbol_taken (plain x) (45 ∷ 92 ∷ y ∷ rest) inner.0) refl (symbol_taken (quoted y) rest inner.1) outer.1
item_taken (range (quoted x) (plain y)) rest right dash =
    let outer = and_parts (is_right_class_symbol (quoted x) && is_right_class_symbol (plain y)) (leb x y) right in
    let inner = and_parts (is_right_class_symbol (quoted x)) (is_right_class_symbol (plain y)) outer.0 in
    range_taken (92 ∷ x ∷ 45 ∷ y ∷ rest) x 2 y 1 (symbol_taken (quoted x) (45 ∷ y ∷ rest) inner.0) refl (symbol_taken (plain y) rest inner.1) outer.1
item_taken (range (quoted x) (quoted y)) rest right dash =
    let outer = and_parts (is_right_class_symbol (quoted x) && is_right_class_symbol (quoted y)) (leb x y) right in
    let inner = and_parts (is_right_class_symbol (quoted x)) (is_right_class_symbol (quoted y)) outer.0 in
    range_taken (92 ∷ x ∷ 45 ∷ 92 ∷ y ∷ rest) x 2 y 2 (symbol_taken (quoted x) (45 ∷ 92 ∷ y ∷ rest) inner.0) refl (symbol_taken (quoted y) rest inner.1) outer.1

-- an item begins with a byte that is no `-` and no `]`
abbrev Begins : List ℕ → Type 0
Begins bytes = (byte : ℕ) × (taken : List ℕ) × (bytes ≡ byte ∷ taken) × (eqb byte 45 ≡ false) × (eqb byte 93 ≡ false)

symbol_begins : (tree : ClassSymbol) (rest : List ℕ) → is_right_class_symbol tree ≡ true → Begins (class_symbol_bytes tree ++ rest)
symbol_begins (plain symbol) rest right = let apart = plain_apart symbol right in (symbol, rest, refl, apart.2, apart.0)
symbol_begins (quoted symbol) rest right = (92, symbol ∷ rest, refl, refl, refl)

item_begins : (tree : Item) → is_right_item tree ≡ true → Begins (item_bytes tree)
item_begins (one symbol) right = subst Begins (append-nil (class_symbol_bytes symbol)) (symbol_begins symbol [] right)
item_begins (range first final) right =
    let outer = and_parts (is_right_class_symbol first && is_right_class_symbol final) (leb (class_symbol first) (class_symbol final)) right in
    symbol_begins first (45 ∷ class_symbol_bytes final) (and_parts (is_right_class_symbol first) (is_right_class_symbol final) outer.0).0

no_dash : (trees : List Item) (rest : List ℕ) → list_all is_right_item trees ≡ true → eqb (slice_index (items_bytes trees ++ 93 ∷ rest) 0) 45 ≡ false
no_dash [] rest right = refl
no_dash (tree ∷ trees) rest right =
    let front = item_begins tree (and_parts (is_right_item tree) (list_all is_right_item trees) right).0 in
    ap (λ (bytes : List ℕ). eqb (slice_index (bytes ++ items_bytes trees ++ 93 ∷ rest) 0) 45) front.2 ∙ front.3

items_past : (taken rest : List ℕ) (place : ℕ) → items_from place (length taken) (taken ++ rest) ≡ items_from (place + length taken) 0 rest
unfolding items_from
items_past [] rest place = ap (λ (p : ℕ). items_from p 0 rest) (omega arith)
items_past (byte ∷ taken) rest place = items_past taken rest (place + 1) ∙ ap (λ (p : ℕ). items_from p 0 rest) (omega arith)

-- an item in front of what is read after it
item_first : (place byte : ℕ) (taken rest : List ℕ) (ends : ℕ × ℕ) (found : List (ℕ × ℕ) × ℕ) → eqb byte 93 ≡ false → item_at (byte ∷ taken ++ rest) ≡ Some (ends, suc (length taken))
    → items_from (place + 1 + length taken) 0 rest ≡ Some found → items_from place 0 (byte ∷ taken ++ rest) ≡ Some (ends ∷ found.0, found.1)
unfolding items_from
item_first place byte taken rest ends found bracket item more =
    let skip : suc (length taken) - 1 ≡ length taken = omega arith in
    rw (bracket, item, skip, items_past taken rest (place + 1), more) refl

items_taken : (trees : List Item) (rest : List ℕ) (place : ℕ) → list_all is_right_item trees ≡ true
    → items_from place 0 (items_bytes trees ++ 93 ∷ rest) ≡ Some (map item_ends trees, place + length (items_bytes trees) + 1)
unfolding items_from
items_taken [] rest place right = ap (λ (p : ℕ). Some ([], p)) (omega arith)
items_taken (tree ∷ trees) rest place right =
    let parts = and_parts (is_right_item tree) (list_all is_right_item trees) right in
    let front = item_begins tree parts.0 in
    let more = items_bytes trees ++ 93 ∷ rest in
    let item : item_at (front.0 ∷ front.1 ++ more) ≡ Some (item_ends tree, suc (length front.1)) =
    ap (λ (bytes : List ℕ). item_at (bytes ++ more)) (sym front.2) ∙ item_taken tree more parts.0 (no_dash trees rest parts.1)
    ∙ ap (λ (bytes : List ℕ). Some (item_ends tree, length bytes)) front.2 in
    let long : length (item_bytes tree) ≡ suc (length front.1) = ap length front.2 in
    ap (items_from place 0) (append_assoc (item_bytes tree) (items_bytes trees) (93 ∷ rest) ∙ ap (λ (bytes : List ℕ). bytes ++ more) front.2)
    ∙ item_first place front.0 front.1 more (item_ends tree) (map item_ends trees, place + 1 + length front.1 + length (items_bytes trees) + 1) front.4 item (items_taken trees rest (place + 1 + length front.1) parts.1)
    ∙ ap (λ (p : ℕ). Some (item_ends tree ∷ map item_ends trees, p)) (omega (arith, long, length-append (item_bytes tree) (items_bytes trees)))

no_caret : (first : Item) (rest : List ℕ) → begins_with_caret first ≡ false → eqb (slice_index (item_bytes first ++ rest) 0) 94 ≡ false
no_caret (one (plain x)) rest h = h
no_caret (one (quoted x)) rest h = refl
no_caret (range (plain x) final) rest h = h
no_caret (range (quoted x) final) rest h = refl

-- a class as its tree gives it, and how many bytes it takes
abbrev pub class_found : Bool → Item → List Item → Class × ℕ
class_found negated first others = (bracket_class negated (first ∷ others), length (negation_bytes negated) + length (items_bytes (first ∷ others)) + 1)

pub class_taken : (negated : Bool) (first : Item) (others : List Item) (rest : List ℕ) → list_all is_right_item (first ∷ others) ≡ true → (negated || not (begins_with_caret first)) ≡ true
    → class_at (negation_bytes negated ++ (items_bytes (first ∷ others) ++ 93 ∷ rest)) ≡ Some (class_found negated first others)
unfolding class_at
class_taken true first others rest right caret =
    rw (items_taken (first ∷ others) rest 1 right) (ap (λ (c : Class). Some (c, 1 + length (items_bytes (first ∷ others)) + 1)) (class_of_ends true (first ∷ others)))
class_taken false first others rest right caret =
    let plain : eqb (slice_index (items_bytes (first ∷ others) ++ 93 ∷ rest) 0) 94 ≡ false =
    ap (λ (bytes : List ℕ). eqb (slice_index bytes 0) 94) (append_assoc (item_bytes first) (items_bytes others) (93 ∷ rest))
    ∙ no_caret first (items_bytes others ++ 93 ∷ rest) (not-true (begins_with_caret first) caret) in
    rw (plain, items_taken (first ∷ others) rest 0 right) (ap (λ (c : Class). Some (c, 0 + length (items_bytes (first ∷ others)) + 1)) (class_of_ends false (first ∷ others)))
