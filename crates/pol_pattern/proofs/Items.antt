-- Reading the items of a class one after another, as a loop does.
use Rattle.std.proofs.Common.{◌≡◌, ℕ, zero, suc, ◌+◌, ◌-◌, ◌<◌, ◌≤◌, Bool, true, false, ◌||◌, ◌&&◌, leb, eqb, List, [], ◌∷◌, ◌++◌, length, get_or, take, drop, Option, Some, None, refl, sym, ap, ◌∙◌, append_assoc, append-nil, arith}
use Rattle.std.proofs.lemmas.Bool.{ne_eqb}
use mir.Val.{bool_byte}
use Rattle.std.proofs.lemmas.List.{at_drop_more, at_drop_all, drop-drop, take_rest}
use Rattle.std.proofs.lemmas.List.Folds.{list_any-append}
use Rattle.std.specs.Option.{option_and_then}
use Rattle.pol_pattern.specs.Flat.{Class, class_where}
use Rattle.pol_pattern.specs.Reading.{item_at, with_item, items_from, is_among, class_of_items, class_unless_empty, class_at}
use Rattle.pol_pattern.proofs.Classes.{class_where-same}

-- bytes that were taken are passed over
pub items_from-skip : (place skip : ℕ) (bytes : List ℕ) → items_from place skip bytes ≡ items_from (place + skip) 0 (drop skip bytes)
unfolding items_from
items_from-skip place zero bytes = ap (λ (n : ℕ). items_from n 0 bytes) (omega arith)
items_from-skip place (suc skip) [] = refl
items_from-skip place (suc skip) (byte ∷ rest) =
    items_from-skip (place + 1) skip rest ∙ ap (λ (n : ℕ). items_from n 0 (drop skip rest)) (omega arith)

-- the items read before, and those still read
abbrev pub with_items : List (ℕ × ℕ) → Option (List (ℕ × ℕ) × ℕ) → Option (List (ℕ × ℕ) × ℕ)
with_items items None = None
with_items items (Some rest) = Some (items ++ rest.0, rest.1)

regroup : (items : List (ℕ × ℕ)) (item : ℕ × ℕ) (read : Option (List (ℕ × ℕ) × ℕ)) → with_items items (with_item item read) ≡ with_items (items ++ item ∷ []) read
regroup items item None = refl
regroup items item (Some rest) = ap (λ (l : List (ℕ × ℕ)). Some (l, rest.1)) (sym (append_assoc items (item ∷ []) rest.0))

item_step : (items : List (ℕ × ℕ)) (place byte : ℕ) (rest : List ℕ) (item : ℕ × ℕ) (size : ℕ) → eqb byte 93 ≡ false → 0 < size → item_at (byte ∷ rest) ≡ Some (item, size)
    → with_items items (items_from place 0 (byte ∷ rest)) ≡ with_items (items ++ item ∷ []) (items_from (place + size) 0 (drop (size - 1) rest))
unfolding items_from
item_step items place byte rest item size plain positive is =
    let sum : place + 1 + (size - 1) ≡ place + size = omega arith in
    rw (plain, is) (regroup items item (items_from (place + 1) (size - 1) rest)
    ∙ ap (with_items (items ++ item ∷ [])) (items_from-skip (place + 1) (size - 1) rest ∙ ap (λ (n : ℕ). items_from n 0 (drop (size - 1) rest)) sum))

bad_item : (items : List (ℕ × ℕ)) (place byte : ℕ) (rest : List ℕ) → eqb byte 93 ≡ false → item_at (byte ∷ rest) ≡ None → with_items items (items_from place 0 (byte ∷ rest)) ≡ None
unfolding items_from
bad_item items place byte rest plain is = rw (plain, is) refl

class_end : (items : List (ℕ × ℕ)) (place byte : ℕ) (rest : List ℕ) → eqb byte 93 ≡ true → with_items items (items_from place 0 (byte ∷ rest)) ≡ Some (items, place + 1)
unfolding items_from
class_end items place byte rest closing = rw closing (ap (λ (l : List (ℕ × ℕ)). Some (l, place + 1)) (append-nil items))

-- ---- by place

pub item_read : (items : List (ℕ × ℕ)) (place : ℕ) (bytes : List ℕ) (item : ℕ × ℕ) (size : ℕ) (total : Option (List (ℕ × ℕ) × ℕ)) → place < length bytes → (get_or bytes place 0 ≡ 93 → ⊥)
    → 0 < size → item_at (drop place bytes) ≡ Some (item, size) → with_items items (items_from place 0 (drop place bytes)) ≡ total
    → with_items (items ++ item ∷ []) (items_from (place + size) 0 (drop (place + size) bytes)) ≡ total
item_read items place bytes item size total lt plain positive is so_far =
    let head : item_at (get_or bytes place 0 ∷ drop (place + 1) bytes) ≡ Some (item, size) = sym (at_drop_more item_at bytes place 0 lt) ∙ is in
    let sum : place + 1 + (size - 1) ≡ place + size = omega arith in
    let rest : drop (size - 1) (drop (place + 1) bytes) ≡ drop (place + size) bytes = drop-drop (size - 1) (place + 1) bytes ∙ ap (λ (n : ℕ). drop n bytes) sum in
    ap (λ (t : List ℕ). with_items (items ++ item ∷ []) (items_from (place + size) 0 t)) (sym rest)
    ∙ sym (item_step items place (get_or bytes place 0) (drop (place + 1) bytes) item size (ne_eqb _ _ plain) positive head)
    ∙ sym (at_drop_more (λ (t : List ℕ). with_items items (items_from place 0 t)) bytes place 0 lt) ∙ so_far

pub item_refused : (items : List (ℕ × ℕ)) (place : ℕ) (bytes : List ℕ) (total : Option (List (ℕ × ℕ) × ℕ)) → place < length bytes → (get_or bytes place 0 ≡ 93 → ⊥)
    → item_at (drop place bytes) ≡ None → with_items items (items_from place 0 (drop place bytes)) ≡ total → total ≡ None
item_refused items place bytes total lt plain is so_far =
    let head : item_at (get_or bytes place 0 ∷ drop (place + 1) bytes) ≡ None = sym (at_drop_more item_at bytes place 0 lt) ∙ is in
    sym so_far ∙ at_drop_more (λ (t : List ℕ). with_items items (items_from place 0 t)) bytes place 0 lt
    ∙ bad_item items place (get_or bytes place 0) (drop (place + 1) bytes) (ne_eqb _ _ plain) head

pub class_closed : (items : List (ℕ × ℕ)) (place : ℕ) (bytes : List ℕ) (total : Option (List (ℕ × ℕ) × ℕ)) → place < length bytes → get_or bytes place 0 ≡ 93
    → with_items items (items_from place 0 (drop place bytes)) ≡ total → total ≡ Some (items, place + 1)
class_closed items place bytes total lt closing so_far =
    sym so_far ∙ at_drop_more (λ (t : List ℕ). with_items items (items_from place 0 t)) bytes place 0 lt
    ∙ class_end items place (get_or bytes place 0) (drop (place + 1) bytes) (ap (λ (n : ℕ). eqb n 93) closing)

pub class_unclosed : (items : List (ℕ × ℕ)) (place : ℕ) (bytes : List ℕ) (total : Option (List (ℕ × ℕ) × ℕ)) → length bytes ≤ place
    → with_items items (items_from place 0 (drop place bytes)) ≡ total → total ≡ None
unfolding items_from
class_unclosed items place bytes total le so_far =
    sym so_far ∙ at_drop_all (λ (t : List ℕ). with_items items (items_from place 0 t)) bytes place le

or-false : (b : Bool) → (b || false) ≡ b
or-false true = refl
or-false false = refl

one_among_more : (items : List (ℕ × ℕ)) (item : ℕ × ℕ) (byte : ℕ) → is_among (items ++ item ∷ []) byte ≡ (is_among items byte || (leb item.0 byte && leb byte item.1))
one_among_more items item byte =
    list_any-append (λ (i : ℕ × ℕ). leb i.0 byte && leb byte i.1) items (item ∷ [])
    ∙ ap (λ (b : Bool). is_among items byte || b) (or-false (leb item.0 byte && leb byte item.1))

-- the class of the items that were read
pub one_item_more : (class : Class) (items : List (ℕ × ℕ)) (first last : ℕ) → class ≡ class_where (λ byte. is_among items byte || (leb first byte && leb byte last))
    → class ≡ class_where (is_among (items ++ (first, last) ∷ []))
one_item_more class items first last is = is ∙ class_where-same _ _ (λ byte. sym (one_among_more items (first, last) byte))

pub class_of_read : (negated : Bool) (items : List (ℕ × ℕ)) (end : ℕ) → 0 < length items → class_unless_empty negated (items, end) ≡ Some (class_of_items negated items, end)
class_of_read negated [] end positive = absurd (omega arith)
class_of_read negated (item ∷ items) end positive = refl

-- ---- the whole class

pub class_at_is : (bytes : List ℕ) (negated : Bool) (start : ℕ) → negated ≡ eqb (get_or bytes 0 0) 94 → start ≡ bool_byte negated
    → class_at bytes ≡ option_and_then (class_unless_empty negated) (items_from start 0 (drop start bytes))
unfolding class_at
class_at_is bytes true start n s = rw (s, ← n) refl
class_at_is bytes false start n s = rw (s, ← n) refl

pub start_within : (bytes : List ℕ) (negated : Bool) (start : ℕ) → negated ≡ eqb (get_or bytes 0 0) 94 → start ≡ bool_byte negated → start ≤ length bytes
start_within bytes false start n s = omega (arith, s)
start_within [] true start n s = absurd cc
start_within (byte ∷ bytes) true start n s = omega (arith, s)

pub with_no_items : (read : Option (List (ℕ × ℕ) × ℕ)) → with_items [] read ≡ read
with_no_items None = refl
with_no_items (Some rest) = refl

abbrev pub classed : Bool → Option (List (ℕ × ℕ) × ℕ) → Option (Class × ℕ)
classed negated read = option_and_then (class_unless_empty negated) read

-- the bytes from a place on
pub rest_is : (bytes : List ℕ) (place : ℕ) → take (length bytes - place) (drop place bytes) ≡ drop place bytes
rest_is bytes place = take_rest bytes place
