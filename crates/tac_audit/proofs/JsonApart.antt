-- Texts, lists and members are told apart, and so is what follows them.
use Rattle.std.specs.Prelude.{slice_index}
use Rattle.std.proofs.Common.{◌≡◌, ℕ, zero, suc, ◌+◌, ◌-◌, ◌*◌, ◌/◌, ◌%◌, ◌<◌, ◌^◌, Bool, true, false, not, if◌then◌else◌, eqb, eq-eqb, List, [], ◌∷◌, ◌++◌, drop, Option, Some, None, nat_lt, append_assoc, refl, sym, ap, ◌∙◌, arith}
use Rattle.std.specs.List.{list_all, flat_map}
use Rattle.std.specs.Option.{option_map_or}
use Rattle.std.specs.Fmt.{digit_glyph, digits_onto, digits, decimal}
use Rattle.std.proofs.lemmas.Bool.Decides.{nat_tests}
use Rattle.std.proofs.lemmas.Bool.{and_parts, and_from}
use Rattle.std.proofs.lemmas.List.{append_cancel_left}
use Rattle.std.proofs.lemmas.Fmt.{decimal_injective}
use Rattle.tac_audit.specs.Json.{is_marked, is_control, shown_byte, hex_byte, text_json, optional_json, more_json, texts_json, member}
use Rattle.tac_audit.specs.Apart.{are_bytes, are_texts}

true_false : (b : Bool) → b ≡ true → b ≡ false → ⊥
true_false b h k = cc

-- numbers that a test tells apart
pub unlike : (m n : ℕ) → eqb m n ≡ false → m ≡ n → ⊥
unlike m n h e = true_false (eqb m n) (eq-eqb m n e) h

-- ---- a byte is read again

-- what a hexadecimal digit counts
value : ℕ → ℕ
value glyph = if nat_lt glyph 58 then glyph - 48 else glyph - 87

-- what follows `\u00`
unhex : List ℕ → Option (ℕ × List ℕ)
unhex (a ∷ b ∷ high ∷ low ∷ rest) = Some (value high * 16 + value low, rest)
unhex _ = None

-- what follows a backslash
unmarked : List ℕ → Option (ℕ × List ℕ)
unmarked [] = None
unmarked (byte ∷ rest) = if eqb byte 0x75 then unhex rest else Some (byte, rest)

-- what follows the first byte of two
joined : ℕ → List ℕ → Option (ℕ × List ℕ)
joined lead [] = None
joined lead (byte ∷ rest) = Some ((lead - 0xC0) * 64 + (byte - 0x80), rest)

-- the first byte that is shown, and what follows it; none at a quotation mark
unshown : List ℕ → Option (ℕ × List ℕ)
unshown [] = None
unshown (byte ∷ rest) =
    if eqb byte 0x22 then None
    else if eqb byte 0x5C then unmarked rest
    else if nat_lt byte 0x80 then Some (byte, rest)
    else joined byte rest

glyph_value : (d : ℕ) → d < 16 → value (digit_glyph false d) ≡ d
unfolding value
glyph_value d small = grind (arith, nat_tests)

marked_plain : (byte : ℕ) → is_marked byte ≡ true → eqb byte 0x75 ≡ false
marked_plain byte h = grind (arith, nat_tests)

not_quote : (byte : ℕ) → is_marked byte ≡ false → eqb byte 0x22 ≡ false
not_quote byte h = grind (arith, nat_tests)

not_slash : (byte : ℕ) → is_marked byte ≡ false → eqb byte 0x5C ≡ false
not_slash byte h = grind (arith, nat_tests)

high_lead : (n : ℕ) → (eqb (0xC0 + n) 0x22 ≡ false) × (eqb (0xC0 + n) 0x5C ≡ false) × (nat_lt (0xC0 + n) 0x80 ≡ false)
high_lead n = (grind (arith, nat_tests), grind (arith, nat_tests), grind (arith, nat_tests))

some_pair : (a b : ℕ) (x : List ℕ) → a ≡ b → ◌≡◌ {A = Option (ℕ × List ℕ)} (Some (a, x)) (Some (b, x))
some_pair a b x e = ap (λ (n : ℕ). Some (n, x)) e

hex_again : (byte : ℕ) → byte < 256 → value (digit_glyph false (byte / 16)) * 16 + value (digit_glyph false (byte % 16)) ≡ byte
hex_again byte small =
    let high : value (digit_glyph false (byte / 16)) ≡ byte / 16 = glyph_value (byte / 16) (omega arith) in
    let low : value (digit_glyph false (byte % 16)) ≡ byte % 16 = glyph_value (byte % 16) (omega arith) in
    rw (high, low) (omega arith)

shown_again : (byte : ℕ) (x : List ℕ) → byte < 256 → unshown (shown_byte byte ++ x) ≡ Some (byte, x)
unfolding unshown unmarked unhex joined
shown_again byte x small = cases (is_marked byte) (is_control byte) (nat_lt byte 0x80) refl refl refl
  where
    cases : (m c p : Bool) → is_marked byte ≡ m → is_control byte ≡ c → nat_lt byte 0x80 ≡ p
        → unshown ((if m then 0x5C ∷ byte ∷ [] else (if c then 0x5C ∷ 0x75 ∷ 0x30 ∷ 0x30 ∷ hex_byte byte else (if p then byte ∷ [] else (0xC0 + byte / 64) ∷ (0x80 + byte % 64) ∷ []))) ++ x)
        ≡ Some (byte, x)
    cases true c p is_m is_c is_p = rw (marked_plain byte is_m) refl
    cases false true p is_m is_c is_p = some_pair _ byte x (hex_again byte small)
    cases false false true is_m is_c is_p = rw (not_quote byte is_m, not_slash byte is_m, is_p) refl
    cases false false false is_m is_c is_p =
        let lead = high_lead (byte / 64) in
        rw (lead.0, lead.1, lead.2) (some_pair _ byte x (omega arith))

pair_parts : (a b : ℕ) (x y : List ℕ) → ◌≡◌ {A = Option (ℕ × List ℕ)} (Some (a, x)) (Some (b, y)) → (a ≡ b) × (x ≡ y)
pair_parts a b x y e =
    let same : (let p : ℕ × List ℕ = (a, x) in p) ≡ (b, y) = cc in
    (ap (λ (p : ℕ × List ℕ). p.0) same, ap (λ (p : ℕ × List ℕ). p.1) same)

first_shown : (a b : ℕ) (x y : List ℕ) → a < 256 → b < 256 → shown_byte a ++ x ≡ shown_byte b ++ y → (a ≡ b) × (x ≡ y)
first_shown a b x y small_a small_b same =
    pair_parts a b x y (sym (shown_again a x small_a) ∙ ap unshown same ∙ shown_again b y small_b)

at_quote : (x : List ℕ) → unshown (0x22 ∷ x) ≡ None
unfolding unshown
at_quote x = refl

none_some : (p : ℕ × List ℕ) → ◌≡◌ {A = Option (ℕ × List ℕ)} None (Some p) → ⊥
none_some p e = cc

-- a quotation mark is no shown byte
not_shown : (byte : ℕ) (x y : List ℕ) → byte < 256 → 0x22 ∷ x ≡ shown_byte byte ++ y → ⊥
not_shown byte x y small same = none_some (byte, y) (sym (at_quote x) ∙ ap unshown same ∙ shown_again byte y small)

-- ---- texts

small_byte : (byte : ℕ) → nat_lt byte 256 ≡ true → byte < 256
small_byte byte h = grind (arith, nat_tests)

bytes_apart : (a b x y : List ℕ) → are_bytes a ≡ true → are_bytes b ≡ true
    → flat_map shown_byte a ++ 0x22 ∷ x ≡ flat_map shown_byte b ++ 0x22 ∷ y → (a ≡ b) × (x ≡ y)
bytes_apart [] [] x y h k same = (refl, ap (drop 1) same)
bytes_apart [] (d ∷ b) x y h k same =
    let there = and_parts (nat_lt d 256) (are_bytes b) k in
    absurd (not_shown d x (flat_map shown_byte b ++ 0x22 ∷ y) (small_byte d there.0)
    (same ∙ append_assoc (shown_byte d) (flat_map shown_byte b) (0x22 ∷ y)))
bytes_apart (c ∷ a) [] x y h k same =
    let here = and_parts (nat_lt c 256) (are_bytes a) h in
    absurd (not_shown c y (flat_map shown_byte a ++ 0x22 ∷ x) (small_byte c here.0)
    (sym same ∙ append_assoc (shown_byte c) (flat_map shown_byte a) (0x22 ∷ x)))
bytes_apart (c ∷ a) (d ∷ b) x y h k same =
    let here = and_parts (nat_lt c 256) (are_bytes a) h in
    let there = and_parts (nat_lt d 256) (are_bytes b) k in
    let first = first_shown c d (flat_map shown_byte a ++ 0x22 ∷ x) (flat_map shown_byte b ++ 0x22 ∷ y) (small_byte c here.0) (small_byte d there.0)
    (sym (append_assoc (shown_byte c) (flat_map shown_byte a) (0x22 ∷ x)) ∙ same ∙ append_assoc (shown_byte d) (flat_map shown_byte b) (0x22 ∷ y)) in
    let rest = bytes_apart a b x y here.1 there.1 first.1 in
    let head = first.0 in
    let tail = rest.0 in
    (cc, rest.1)

text_is : (text x : List ℕ) → text_json text ++ x ≡ 0x22 ∷ (flat_map shown_byte text ++ 0x22 ∷ x)
unfolding text_json
text_is text x = ap (λ (rest : List ℕ). 0x22 ∷ rest) (append_assoc (flat_map shown_byte text) (0x22 ∷ []) x)

pub text_apart : (a b x y : List ℕ) → are_bytes a ≡ true → are_bytes b ≡ true → text_json a ++ x ≡ text_json b ++ y → (a ≡ b) × (x ≡ y)
text_apart a b x y h k same =
    bytes_apart a b x y h k (ap (drop 1) (sym (text_is a x) ∙ same ∙ text_is b y))

-- ---- a text or null

pub optional_apart : (a b : Option (List ℕ)) (x y : List ℕ) → option_map_or are_bytes a true ≡ true → option_map_or are_bytes b true ≡ true
    → optional_json a ++ x ≡ optional_json b ++ y → (a ≡ b) × (x ≡ y)
unfolding optional_json text_json
optional_apart None None x y h k same = (refl, ap (drop 4) same)
optional_apart None (Some b) x y h k same = absurd (unlike 110 0x22 refl (ap (λ (l : List ℕ). slice_index l 0) same))
optional_apart (Some a) None x y h k same = absurd (unlike 0x22 110 refl (ap (λ (l : List ℕ). slice_index l 0) same))
optional_apart (Some a) (Some b) x y h k same =
    let parts = text_apart a b x y h k same in
    (ap (λ (t : List ℕ). Some t) parts.0, parts.1)

-- ---- arrays

more_is : (text : List ℕ) (texts : List (List ℕ)) (x : List ℕ) → more_json (text ∷ texts) ++ x ≡ 0x2C ∷ (text_json text ++ (more_json texts ++ x))
more_is text texts x = ap (λ (rest : List ℕ). 0x2C ∷ rest) (append_assoc (text_json text) (more_json texts) x)

more_apart : (a b : List (List ℕ)) (x y : List ℕ) → are_texts a ≡ true → are_texts b ≡ true → more_json a ++ x ≡ more_json b ++ y → (a ≡ b) × (x ≡ y)
more_apart [] [] x y h k same = (refl, ap (drop 1) same)
more_apart [] (t ∷ b) x y h k same = absurd (unlike 0x5D 0x2C refl (ap (λ (l : List ℕ). slice_index l 0) same))
more_apart (s ∷ a) [] x y h k same = absurd (unlike 0x2C 0x5D refl (ap (λ (l : List ℕ). slice_index l 0) same))
more_apart (s ∷ a) (t ∷ b) x y h k same =
    let here = and_parts (are_bytes s) (are_texts a) h in
    let there = and_parts (are_bytes t) (are_texts b) k in
    let first = text_apart s t (more_json a ++ x) (more_json b ++ y) here.0 there.0
    (ap (drop 1) (sym (more_is s a x) ∙ same ∙ more_is t b y)) in
    let rest = more_apart a b x y here.1 there.1 first.1 in
    let head = first.0 in
    let tail = rest.0 in
    (cc, rest.1)

texts_is : (text : List ℕ) (texts : List (List ℕ)) (x : List ℕ) → texts_json (text ∷ texts) ++ x ≡ 0x5B ∷ (text_json text ++ (more_json texts ++ x))
unfolding texts_json
texts_is text texts x = ap (λ (rest : List ℕ). 0x5B ∷ rest) (append_assoc (text_json text) (more_json texts) x)

pub texts_apart : (a b : List (List ℕ)) (x y : List ℕ) → are_texts a ≡ true → are_texts b ≡ true → texts_json a ++ x ≡ texts_json b ++ y → (a ≡ b) × (x ≡ y)
unfolding texts_json text_json
texts_apart [] [] x y h k same = (refl, ap (drop 2) same)
texts_apart [] (t ∷ b) x y h k same = absurd (unlike 0x5D 0x22 refl (ap (λ (l : List ℕ). slice_index l 1) same))
texts_apart (s ∷ a) [] x y h k same = absurd (unlike 0x22 0x5D refl (ap (λ (l : List ℕ). slice_index l 1) same))
texts_apart (s ∷ a) (t ∷ b) x y h k same =
    let here = and_parts (are_bytes s) (are_texts a) h in
    let there = and_parts (are_bytes t) (are_texts b) k in
    let first = text_apart s t (more_json a ++ x) (more_json b ++ y) here.0 there.0
    (ap (drop 1) (sym (texts_is s a x) ∙ same ∙ texts_is t b y)) in
    let rest = more_apart a b x y here.1 there.1 first.1 in
    let head = first.0 in
    let tail = rest.0 in
    (cc, rest.1)

-- ---- numbers

no_comma : ℕ → Bool
no_comma byte = not (eqb byte 0x2C)

digit_plain : (n : ℕ) → no_comma (digit_glyph false (n % 10)) ≡ true
unfolding no_comma
digit_plain n = let small : n % 10 < 10 = omega arith in grind (arith, nat_tests)

onto_plain : (k n : ℕ) (acc : List ℕ) → list_all no_comma acc ≡ true → list_all no_comma (digits_onto k 10 false n acc) ≡ true
onto_plain zero n acc h = h
onto_plain (suc k) n acc h =
    let more = and_from (no_comma (digit_glyph false (n % 10))) (list_all no_comma acc) (digit_plain n) h in
    last (eqb (n / 10) 0) more (onto_plain k (n / 10) (digit_glyph false (n % 10) ∷ acc) more)
  where
    last : (b : Bool) → list_all no_comma (digit_glyph false (n % 10) ∷ acc) ≡ true
        → list_all no_comma (digits_onto k 10 false (n / 10) (digit_glyph false (n % 10) ∷ acc)) ≡ true
        → list_all no_comma (if b then digit_glyph false (n % 10) ∷ acc else digits_onto k 10 false (n / 10) (digit_glyph false (n % 10) ∷ acc)) ≡ true
    last true more rest = more
    last false more rest = rest

decimal_plain : (n : ℕ) → list_all no_comma (decimal n) ≡ true
unfolding digits
decimal_plain n = onto_plain 64 n [] refl

comma_is : no_comma 0x2C ≡ false
unfolding no_comma
comma_is = refl

plain_apart : (a b x y : List ℕ) → list_all no_comma a ≡ true → list_all no_comma b ≡ true → a ++ 0x2C ∷ x ≡ b ++ 0x2C ∷ y → (a ≡ b) × (x ≡ y)
plain_apart [] [] x y h k same = (refl, ap (drop 1) same)
plain_apart [] (d ∷ b) x y h k same =
    let there = and_parts (no_comma d) (list_all no_comma b) k in
    let head : 0x2C ≡ d = cc in
    absurd (true_false (no_comma d) there.0 (sym (ap no_comma head) ∙ comma_is))
plain_apart (c ∷ a) [] x y h k same =
    let here = and_parts (no_comma c) (list_all no_comma a) h in
    let head : 0x2C ≡ c = cc in
    absurd (true_false (no_comma c) here.0 (sym (ap no_comma head) ∙ comma_is))
plain_apart (c ∷ a) (d ∷ b) x y h k same =
    let here = and_parts (no_comma c) (list_all no_comma a) h in
    let there = and_parts (no_comma d) (list_all no_comma b) k in
    let rest = plain_apart a b x y here.1 there.1 (ap (drop 1) same) in
    let head : c ≡ d = cc in
    let tail = rest.0 in
    (cc, rest.1)

-- another member follows
abbrev pub IsNext : List ℕ → Type 0
IsNext x = x ≡ 0x2C ∷ drop 1 x

pub next_member : (name value x : List ℕ) → IsNext (member name value ++ x)
unfolding member
next_member name value x = refl

-- numbers that another member follows
pub number_apart : (m n : ℕ) (x y : List ℕ) → m < 2 ^ 64 → n < 2 ^ 64 → IsNext x → IsNext y → decimal m ++ x ≡ decimal n ++ y → (m ≡ n) × (x ≡ y)
number_apart m n x y small_m small_n next_x next_y same =
    let parts = plain_apart (decimal m) (decimal n) (drop 1 x) (drop 1 y) (decimal_plain m) (decimal_plain n)
    (sym (ap (λ (r : List ℕ). decimal m ++ r) next_x) ∙ same ∙ ap (λ (r : List ℕ). decimal n ++ r) next_y) in
    (decimal_injective m n small_m small_n parts.0, next_x ∙ ap (λ (r : List ℕ). 0x2C ∷ r) parts.1 ∙ sym next_y)

-- ---- members

member_is : (name value x : List ℕ) → member name value ++ x ≡ 0x2C ∷ 0x22 ∷ (name ++ 0x22 ∷ 0x3A ∷ (value ++ x))
unfolding member
member_is name value x = ap (λ (rest : List ℕ). 0x2C ∷ 0x22 ∷ rest) (append_assoc name (0x22 ∷ 0x3A ∷ value) x)

-- after members of the same name, the values and what follows are the same
pub member_apart : (name v w x y : List ℕ) → member name v ++ x ≡ member name w ++ y → v ++ x ≡ w ++ y
member_apart name v w x y same =
    ap (drop 2) (append_cancel_left name (0x22 ∷ 0x3A ∷ (v ++ x)) (0x22 ∷ 0x3A ∷ (w ++ y)) (ap (drop 2) (sym (member_is name v x) ∙ same ∙ member_is name w y)))

-- members of the same name with a text, and what follows
pub text_member : (name a b x y : List ℕ) → are_bytes a ≡ true → are_bytes b ≡ true → member name (text_json a) ++ x ≡ member name (text_json b) ++ y → (a ≡ b) × (x ≡ y)
text_member name a b x y h k same = text_apart a b x y h k (member_apart name (text_json a) (text_json b) x y same)

-- members of the same name with a text or null, and what follows
pub optional_member : (name : List ℕ) (a b : Option (List ℕ)) (x y : List ℕ) → option_map_or are_bytes a true ≡ true → option_map_or are_bytes b true ≡ true
    → member name (optional_json a) ++ x ≡ member name (optional_json b) ++ y → (a ≡ b) × (x ≡ y)
optional_member name a b x y h k same = optional_apart a b x y h k (member_apart name (optional_json a) (optional_json b) x y same)

-- ---- hexadecimal digits

glyphs_apart : (d e : ℕ) → d < 16 → e < 16 → digit_glyph false d ≡ digit_glyph false e → d ≡ e
glyphs_apart d e small_d small_e same = sym (glyph_value d small_d) ∙ ap value same ∙ glyph_value e small_e

glyph_small : (d : ℕ) → d < 16 → nat_lt (digit_glyph false d) 256 ≡ true
glyph_small d small = grind (arith, nat_tests)

pub hexes_are_bytes : (a : List ℕ) → are_bytes a ≡ true → are_bytes (flat_map hex_byte a) ≡ true
hexes_are_bytes [] h = refl
hexes_are_bytes (c ∷ a) h =
    let here = and_parts (nat_lt c 256) (are_bytes a) h in
    let small = small_byte c here.0 in
    and_from (nat_lt (digit_glyph false (c / 16)) 256) _ (glyph_small (c / 16) (omega arith))
    (and_from (nat_lt (digit_glyph false (c % 16)) 256) (are_bytes (flat_map hex_byte a)) (glyph_small (c % 16) (omega arith)) (hexes_are_bytes a here.1))

pub hexes_apart : (a b : List ℕ) → are_bytes a ≡ true → are_bytes b ≡ true → flat_map hex_byte a ≡ flat_map hex_byte b → a ≡ b
hexes_apart [] [] h k same = refl
hexes_apart [] (d ∷ b) h k same = absurd cc
hexes_apart (c ∷ a) [] h k same = absurd cc
hexes_apart (c ∷ a) (d ∷ b) h k same =
    let here = and_parts (nat_lt c 256) (are_bytes a) h in
    let there = and_parts (nat_lt d 256) (are_bytes b) k in
    let small_c = small_byte c here.0 in
    let small_d = small_byte d there.0 in
    let high : digit_glyph false (c / 16) ≡ digit_glyph false (d / 16) = cc in
    let low : digit_glyph false (c % 16) ≡ digit_glyph false (d % 16) = cc in
    let same_high = glyphs_apart (c / 16) (d / 16) (omega arith) (omega arith) high in
    let same_low = glyphs_apart (c % 16) (d % 16) (omega arith) (omega arith) low in
    let head : c ≡ d = omega arith in
    let tail = hexes_apart a b here.1 there.1 (ap (drop 2) same) in
    cc
