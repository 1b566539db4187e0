-- Classes: what is taken from the front of a text is what a tree spells.
use Rattle.std.proofs.Common.{◌≡◌, ℕ, zero, suc, ◌+◌, ◌-◌, Bool, true, false, not, ◌&&◌, ◌||◌, nat_le, eqb, cond, List, [], ◌∷◌, ◌++◌, map, length, drop, slice_index, Option, Some, None, option_and_then, refl, sym, ap, ap₂, subst, ◌∙◌, inl, inr, append_assoc, length-append, arith}
use Rattle.std.specs.List.{list_all}
use Rattle.std.proofs.lemmas.Bool.{and_parts, and_from, eqb-true, or_parts, false≢true}
use Rattle.std.proofs.lemmas.List.{drop_at}
use Rattle.basics.specs.Symbol.{is_symbol, is_text}
use Rattle.pol_pattern.specs.Flat.{Class}
use Rattle.pol_pattern.specs.Spelling.{ClassSymbol, plain, quoted, Item, one, range, class_symbol_bytes, item_bytes, items_bytes, negation_bytes, is_right_class_symbol, class_symbol, is_right_item, begins_with_caret, bracket_class}
use Rattle.pol_pattern.specs.Reading.{class_symbol_at, item_at, with_item, items_from, class_unless_empty, class_at}
use Rattle.pol_pattern.proofs.Steps.{chosen, some_is, none_is, then_some, given}
use Rattle.pol_pattern.proofs.ClassFacts.{item_ends, class_found, class_of_ends}

-- ---- a symbol of a class

abbrev SymbolSpelled : List ℕ → ℕ × ℕ → Type 0
SymbolSpelled bytes found =
    (tree : ClassSymbol) × (rest : List ℕ) × (is_right_class_symbol tree ≡ true) × ((class_symbol tree, length (class_symbol_bytes tree)) ≡ found) × (bytes ≡ class_symbol_bytes tree ++ rest)

plain_spelled : (byte : ℕ) (rest : List ℕ) (found : ℕ × ℕ) → is_symbol byte ≡ true → eqb byte 92 ≡ false
    → cond (eqb byte 93 || eqb byte 45) None (given (byte, 1)) ≡ Some found → SymbolSpelled (byte ∷ rest) found
plain_spelled byte rest found symbol escape e =
    elim (chosen (eqb byte 93 || eqb byte 45) None (given (byte, 1)) (given found) e) [
      | inl none ↦ absurd (none_is found none.1)
      | inr some ↦
          let apart = or_parts (eqb byte 93) (eqb byte 45) some.0 in
          let right : not (eqb byte 93 || eqb byte 92 || eqb byte 45) ≡ true = rw (apart.0, escape, apart.1) refl in
          (plain byte, rest, and_from (is_symbol byte) (not (eqb byte 93 || eqb byte 92 || eqb byte 45)) symbol right, some_is (byte, 1) found some.1, refl)
    ]

symbol_spelled : (bytes : List ℕ) (found : ℕ × ℕ) → is_text bytes ≡ true → class_symbol_at bytes ≡ Some found → SymbolSpelled bytes found
unfolding class_symbol_at
symbol_spelled [] found text e = absurd (none_is found e)
symbol_spelled (byte ∷ []) found text e =
    let symbol = and_parts (is_symbol byte) true text in
    elim (chosen (eqb byte 92) None _ (given found) e) [
      | inl escape ↦ absurd (none_is found escape.1)
      | inr other ↦ plain_spelled byte [] found symbol.0 other.0 other.1
    ]
symbol_spelled (byte ∷ second ∷ rest) found text e =
    let symbol = and_parts (is_symbol byte) (is_text (second ∷ rest)) text in
    elim (chosen (eqb byte 92) (given (second, 2)) _ (given found) e) [
      | inl escape ↦
          (quoted second, rest, (and_parts (is_symbol second) (is_text rest) symbol.1).0, some_is (second, 2) found escape.1, ap (λ (b : ℕ). b ∷ second ∷ rest) (eqb-true byte 92 escape.0))
      | inr other ↦ plain_spelled byte (second ∷ rest) found symbol.0 other.0 other.1
    ]

-- ---- an item

abbrev ItemSpelled : List ℕ → (ℕ × ℕ) × ℕ → Type 0
ItemSpelled bytes found =
    (tree : Item) × (rest : List ℕ) × (is_right_item tree ≡ true) × ((item_ends tree, length (item_bytes tree)) ≡ found) × (bytes ≡ item_bytes tree ++ rest)

-- what is taken after an item's first symbol
abbrev final_at : List ℕ → ℕ × ℕ → Option ((ℕ × ℕ) × ℕ)
final_at bytes first =
    cond (eqb (slice_index bytes first.1) 45)
    (option_and_then (λ (last : ℕ × ℕ). cond (nat_le first.0 last.0) (given ((first.0, last.0), first.1 + 1 + last.1)) None) (class_symbol_at (drop (first.1 + 1) bytes)))
    (Some ((first.0, first.0), first.1))

front_index : (tree : ClassSymbol) (rest : List ℕ) → slice_index (class_symbol_bytes tree ++ rest) (length (class_symbol_bytes tree)) ≡ slice_index rest 0
front_index (plain symbol) rest = refl
front_index (quoted symbol) rest = refl

front_drop : (tree : ClassSymbol) (byte : ℕ) (rest : List ℕ) → drop (length (class_symbol_bytes tree) + 1) (class_symbol_bytes tree ++ byte ∷ rest) ≡ rest
front_drop (plain symbol) byte rest = refl
front_drop (quoted symbol) byte rest = refl

front_text : (tree : ClassSymbol) (byte : ℕ) (rest : List ℕ) → is_text (class_symbol_bytes tree ++ byte ∷ rest) ≡ true → is_text rest ≡ true
front_text (plain symbol) byte rest text =
    (and_parts (is_symbol byte) (is_text rest) (and_parts (is_symbol symbol) (is_text (byte ∷ rest)) text).1).1
front_text (quoted symbol) byte rest text =
    (and_parts (is_symbol byte) (is_text rest) (and_parts (is_symbol symbol) (is_text (byte ∷ rest)) text).1).1

abbrev ends_and_size : ℕ → ℕ → ℕ → (ℕ × ℕ) × ℕ
ends_and_size first final size = ((first, final), size)

range_found : (first final : ClassSymbol) (last : ℕ × ℕ) → (class_symbol final, length (class_symbol_bytes final)) ≡ last
    → ends_and_size (class_symbol first) (class_symbol final) (length (item_bytes (range first final))) ≡ ends_and_size (class_symbol first) last.0 (length (class_symbol_bytes first) + 1 + last.1)
range_found first final last same =
    let size : length (class_symbol_bytes first ++ 45 ∷ class_symbol_bytes final) ≡ length (class_symbol_bytes first) + 1 + length (class_symbol_bytes final) =
    omega (arith, length-append (class_symbol_bytes first) (45 ∷ class_symbol_bytes final)) in
    ap (ends_and_size (class_symbol first) (class_symbol final)) size
    ∙ ap (λ (s : ℕ × ℕ). ends_and_size (class_symbol first) s.0 (length (class_symbol_bytes first) + 1 + s.1)) same

range_spelled : (first : ClassSymbol) (byte : ℕ) (rest : List ℕ) (found : (ℕ × ℕ) × ℕ) → is_right_class_symbol first ≡ true → is_text rest ≡ true → byte ≡ 45
    → option_and_then (λ (last : ℕ × ℕ). cond (nat_le (class_symbol first) last.0) (given ((class_symbol first, last.0), length (class_symbol_bytes first) + 1 + last.1)) None) (class_symbol_at rest) ≡ Some found
    → ItemSpelled (class_symbol_bytes first ++ byte ∷ rest) found
range_spelled first byte rest found right text dash e =
    let a = then_some _ (class_symbol_at rest) found e in
    let final = symbol_spelled rest a.0 text a.1 in
    elim (chosen (nat_le (class_symbol first) a.0.0) (given ((class_symbol first, a.0.0), length (class_symbol_bytes first) + 1 + a.0.1)) None (given found) a.2) [
      | inl below ↦
          let same : (class_symbol final.0, length (class_symbol_bytes final.0)) ≡ a.0 = final.3 in
          let le : nat_le (class_symbol first) (class_symbol final.0) ≡ true = ap (λ (s : ℕ × ℕ). nat_le (class_symbol first) s.0) same ∙ below.0 in (
            range first final.0,
            final.1,
            and_from (is_right_class_symbol first && is_right_class_symbol final.0) _ (and_from (is_right_class_symbol first) (is_right_class_symbol final.0) right final.2) le,
            range_found first final.0 a.0 same ∙ some_is (ends_and_size (class_symbol first) a.0.0 (length (class_symbol_bytes first) + 1 + a.0.1)) found below.1,
            ap₂ (λ (b : ℕ) (r : List ℕ). class_symbol_bytes first ++ b ∷ r) dash final.4 ∙ sym (append_assoc (class_symbol_bytes first) (45 ∷ class_symbol_bytes final.0) final.1),
          )
      | inr above ↦ absurd (none_is found above.1)
    ]

final_spelled : (first : ClassSymbol) (rest : List ℕ) (found : (ℕ × ℕ) × ℕ) → is_right_class_symbol first ≡ true → is_text (class_symbol_bytes first ++ rest) ≡ true
    → final_at (class_symbol_bytes first ++ rest) (class_symbol first, length (class_symbol_bytes first)) ≡ Some found → ItemSpelled (class_symbol_bytes first ++ rest) found
final_spelled first [] found right text e =
    elim (chosen (eqb (slice_index (class_symbol_bytes first ++ []) (length (class_symbol_bytes first))) 45) _ (given ((class_symbol first, class_symbol first), length (class_symbol_bytes first))) (given found) e) [
      | inl dash ↦ absurd (false≢true (ap (λ (i : ℕ). eqb i 45) (sym (front_index first [])) ∙ dash.0))
      | inr alone ↦ (one first, [], right, some_is _ found alone.1, refl)
    ]
final_spelled first (byte ∷ rest) found right text e =
    elim (chosen (eqb (slice_index (class_symbol_bytes first ++ byte ∷ rest) (length (class_symbol_bytes first))) 45) _ (given ((class_symbol first, class_symbol first), length (class_symbol_bytes first))) (given found) e) [
      | inl dash ↦
          range_spelled first byte rest found right (front_text first byte rest text)
          (eqb-true byte 45 (ap (λ (i : ℕ). eqb i 45) (sym (front_index first (byte ∷ rest))) ∙ dash.0))
          (ap (λ (r : List ℕ). option_and_then (λ (last : ℕ × ℕ). cond (nat_le (class_symbol first) last.0) (given ((class_symbol first, last.0), length (class_symbol_bytes first) + 1 + last.1)) None) (class_symbol_at r))
          (sym (front_drop first byte rest)) ∙ dash.1)
      | inr alone ↦ (one first, byte ∷ rest, right, some_is _ found alone.1, refl)
    ]

item_spelled : (bytes : List ℕ) (found : (ℕ × ℕ) × ℕ) → is_text bytes ≡ true → item_at bytes ≡ Some found → ItemSpelled bytes found
unfolding item_at
item_spelled bytes found text e =
    let a = then_some (final_at bytes) (class_symbol_at bytes) found e in
    let first = symbol_spelled bytes a.0 text a.1 in
    subst (λ (b : List ℕ). ItemSpelled b found) (sym first.4)
    (final_spelled first.0 first.1 found first.2 (ap is_text (sym first.4) ∙ text)
    (ap₂ (λ (b : List ℕ) (s : ℕ × ℕ). final_at b s) (sym first.4) first.3 ∙ a.2))

-- ---- items up to a `]`

abbrev pub ItemsSpelled : ℕ → List ℕ → List (ℕ × ℕ) × ℕ → Type 0
ItemsSpelled place bytes found =
    (trees : List Item) × (rest : List ℕ) × (list_all is_right_item trees ≡ true) × ((map item_ends trees, place + length (items_bytes trees) + 1) ≡ found) × (bytes ≡ items_bytes trees ++ 93 ∷ rest)

items_later : (place next : ℕ) (bytes : List ℕ) (found : List (ℕ × ℕ) × ℕ) → place ≡ next → ItemsSpelled place bytes found → ItemsSpelled next bytes found
items_later place next bytes found same h = subst (λ (p : ℕ). ItemsSpelled p bytes found) same h

with_some : (item : ℕ × ℕ) (rest : Option (List (ℕ × ℕ) × ℕ)) (found : List (ℕ × ℕ) × ℕ) → with_item item rest ≡ Some found → (others : List (ℕ × ℕ) × ℕ) × (rest ≡ Some others) × ((item ∷ others.0, others.1) ≡ found)
with_some item None found e = absurd (none_is found e)
with_some item (Some others) found e = (others, refl, some_is (item ∷ others.0, others.1) found e)

item_length : (tree : Item) → (taken : ℕ) × (length (item_bytes tree) ≡ suc taken)
item_length (one (plain x)) = (0, refl)
item_length (one (quoted x)) = (1, refl)
item_length (range (plain x) final) = (suc (length (class_symbol_bytes final)), refl)
item_length (range (quoted x) final) = (suc (suc (length (class_symbol_bytes final))), refl)

-- what follows an item
after_item : (byte : ℕ) (rest back : List ℕ) (tree : Item) → byte ∷ rest ≡ item_bytes tree ++ back → drop (length (item_bytes tree) - 1) rest ≡ back
after_item byte rest back tree whole =
    let size = item_length tree in
    let less : length (item_bytes tree) - 1 ≡ size.0 = let e : length (item_bytes tree) ≡ suc size.0 = size.1 in omega arith in
    ap (λ (n : ℕ). drop n rest) less ∙ ap (drop (suc size.0)) whole ∙ drop_at (item_bytes tree) back (suc size.0) size.1

items_joined : (place : ℕ) (bytes back : List ℕ) (tree : Item) (found : List (ℕ × ℕ) × ℕ) (others : List (ℕ × ℕ) × ℕ) → is_right_item tree ≡ true → bytes ≡ item_bytes tree ++ back
    → (item_ends tree ∷ others.0, others.1) ≡ found → ItemsSpelled (place + length (item_bytes tree)) back others → ItemsSpelled place bytes found
items_joined place bytes back tree found others right whole same h = (
  tree ∷ h.0,
  h.1,
  and_from (is_right_item tree) (list_all is_right_item h.0) right h.2,
  ap (λ (n : ℕ). (item_ends tree ∷ map item_ends h.0, n)) (omega (arith, length-append (item_bytes tree) (items_bytes h.0)))
      ∙ ap (λ (o : List (ℕ × ℕ) × ℕ). (item_ends tree ∷ o.0, o.1)) h.3 ∙ same,
  whole ∙ ap (λ (b : List ℕ). item_bytes tree ++ b) h.4 ∙ sym (append_assoc (item_bytes tree) (items_bytes h.0) (93 ∷ h.1)),
)

items_spelled : (bytes : List ℕ) (place skip : ℕ) (found : List (ℕ × ℕ) × ℕ) → is_text bytes ≡ true → items_from place skip bytes ≡ Some found → ItemsSpelled (place + skip) (drop skip bytes) found
unfolding items_from
items_spelled [] place skip found text e = absurd (none_is found e)
items_spelled (byte ∷ rest) place (suc skip) found text e =
    items_later (place + 1 + skip) (place + suc skip) (drop skip rest) found (omega arith)
    (items_spelled rest (place + 1) skip found (and_parts (is_symbol byte) (is_text rest) text).1 e)
items_spelled (byte ∷ rest) place zero found text e =
    elim (chosen (eqb byte 93) (given ([], place + 1)) _ (given found) e) [
      | inl end ↦ ([], rest, refl, ap (λ (n : ℕ). ([], n)) (omega arith) ∙ some_is ([], place + 1) found end.1, ap (λ (b : ℕ). b ∷ rest) (eqb-true byte 93 end.0))
      | inr other ↦
          let a = then_some (λ (item : (ℕ × ℕ) × ℕ). with_item item.0 (items_from (place + 1) (item.1 - 1) rest)) (item_at (byte ∷ rest)) found other.1 in
          let item = item_spelled (byte ∷ rest) a.0 text a.1 in
          let b = with_some a.0.0 (items_from (place + 1) (a.0.1 - 1) rest) found a.2 in
          let size : length (item_bytes item.0) ≡ a.0.1 = ap (λ (f : (ℕ × ℕ) × ℕ). f.1) item.3 in
          let long = item_length item.0 in
          let at_least : length (item_bytes item.0) ≡ suc long.0 = long.1 in
          let more = items_spelled rest (place + 1) (a.0.1 - 1) b.0 (and_parts (is_symbol byte) (is_text rest) text).1 b.1 in
          items_later place (place + 0) (byte ∷ rest) found (omega arith)
          (items_joined place (byte ∷ rest) item.1 item.0 found b.0 item.2 item.4
          (ap (λ (f : (ℕ × ℕ) × ℕ). (f.0 ∷ b.0.0, b.0.1)) item.3 ∙ b.2)
          (subst (λ (d : List ℕ). ItemsSpelled (place + length (item_bytes item.0)) d b.0)
          (ap (λ (n : ℕ). drop (n - 1) rest) (sym size) ∙ after_item byte rest item.1 item.0 item.4)
          (items_later (place + 1 + (a.0.1 - 1)) (place + length (item_bytes item.0)) (drop (a.0.1 - 1) rest) b.0 (omega arith) more)))
    ]

-- ---- a class

caret_first : (first : Item) (rest : List ℕ) → eqb (slice_index (item_bytes first ++ rest) 0) 94 ≡ false → begins_with_caret first ≡ false
caret_first (one (plain x)) rest h = h
caret_first (one (quoted x)) rest h = refl
caret_first (range (plain x) final) rest h = h
caret_first (range (quoted x) final) rest h = refl

abbrev pub ClassSpelled : List ℕ → Class × ℕ → Type 0
ClassSpelled bytes found =
    (negated : Bool) × (first : Item) × (others : List Item) × (rest : List ℕ) × (list_all is_right_item (first ∷ others) ≡ true) × ((negated || not (begins_with_caret first)) ≡ true)
    × (class_found negated first others ≡ found) × (bytes ≡ negation_bytes negated ++ (items_bytes (first ∷ others) ++ 93 ∷ rest))

-- items, at least one
abbrev NotNone : Bool → ℕ → List ℕ → Class × ℕ → Type 0
NotNone negated place bytes found =
    (first : Item) × (others : List Item) × (rest : List ℕ) × (list_all is_right_item (first ∷ others) ≡ true)
    × ((bracket_class negated (first ∷ others), place + length (items_bytes (first ∷ others)) + 1) ≡ found) × (bytes ≡ items_bytes (first ∷ others) ++ 93 ∷ rest)

not_none : (negated : Bool) (place : ℕ) (bytes : List ℕ) (items : List (ℕ × ℕ) × ℕ) (found : Class × ℕ) → ItemsSpelled place bytes items → class_unless_empty negated items ≡ Some found → NotNone negated place bytes found
not_none negated place bytes items found ([], rest, right, same, whole) e =
    absurd (none_is found (ap (class_unless_empty negated) same ∙ e))
not_none negated place bytes items found (first ∷ others, rest, right, same, whole) e = (
  first,
  others,
  rest,
  right,
  ap (λ (c : Class). (c, place + length (items_bytes (first ∷ others)) + 1)) (sym (class_of_ends negated (first ∷ others)))
      ∙ some_is _ found (ap (class_unless_empty negated) same ∙ e),
  whole,
)

no_items : (place skip : ℕ) (found : List (ℕ × ℕ) × ℕ) → items_from place skip [] ≡ Some found → ⊥
unfolding items_from
no_items place skip found e = none_is found e

pub class_spelled : (bytes : List ℕ) (found : Class × ℕ) → is_text bytes ≡ true → class_at bytes ≡ Some found → ClassSpelled bytes found
unfolding class_at
class_spelled [] found text e =
    let a = then_some (class_unless_empty false) (items_from 0 0 []) found e in
    absurd (no_items 0 0 a.0 a.1)
class_spelled (byte ∷ rest) found text e =
    elim (chosen (eqb byte 94) _ _ (given found) e) [
      | inl caret ↦
          let a = then_some (class_unless_empty true) (items_from 1 0 rest) found caret.1 in
          let h = not_none true 1 rest a.0 found (items_spelled rest 1 0 a.0 (and_parts (is_symbol byte) (is_text rest) text).1 a.1) a.2 in
          (true, h.0, h.1, h.2, h.3, refl, h.4, ap₂ (λ (b : ℕ) (r : List ℕ). b ∷ r) (eqb-true byte 94 caret.0) h.5)
      | inr other ↦
          let a = then_some (class_unless_empty false) (items_from 0 0 (byte ∷ rest)) found other.1 in
          let h = not_none false 0 (byte ∷ rest) a.0 found (items_spelled (byte ∷ rest) 0 0 a.0 text a.1) a.2 in
          let front : byte ∷ rest ≡ item_bytes h.0 ++ (items_bytes h.1 ++ 93 ∷ h.2) = h.5 ∙ append_assoc (item_bytes h.0) (items_bytes h.1) (93 ∷ h.2) in (
            false,
            h.0,
            h.1,
            h.2,
            h.3,
            ap not (caret_first h.0 (items_bytes h.1 ++ 93 ∷ h.2) (ap (λ (b : List ℕ). eqb (slice_index b 0) 94) (sym front) ∙ other.0)),
            h.4,
            h.5,
          )
    ]
