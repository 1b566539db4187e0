-- Percent form: no blank in it, and what it shows.
use Rattle.std.proofs.Common.{◌≡◌, ℕ, zero, suc, ◌/◌, ◌%◌, ◌<◌, ◌&&◌, Bool, true, false, not, if◌then◌else◌, eqb, List, [], ◌∷◌, ◌++◌, nat_lt, refl, sym, ap, arith}
use Rattle.std.specs.List.{list_all, flat_map}
use Rattle.std.specs.Fmt.{digit_glyph, digits_onto, digits, decimal}
use Rattle.std.proofs.lemmas.Bool.Decides.{nat_tests}
use Rattle.std.proofs.lemmas.Bool.{and_parts, and_from}
use Rattle.tac_console.specs.Percent.{is_plain, shown_byte, percent_form}
use Rattle.tac_console.specs.Apart.{are_bytes, is_visible, HasNoBlank}
use Rattle.tac_console.proofs.Spaces.{is_without}

-- ---- visible bytes

visible-append : (xs ys : List ℕ) → list_all is_visible xs ≡ true → list_all is_visible ys ≡ true → list_all is_visible (xs ++ ys) ≡ true
visible-append [] ys h k = k
visible-append (x ∷ xs) ys h k =
    let parts = and_parts (is_visible x) (list_all is_visible xs) h in
    and_from (is_visible x) (list_all is_visible (xs ++ ys)) parts.0 (visible-append xs ys parts.1 k)

-- neither a blank nor a line end is visible
pub visible-without : (separator : ℕ) (text : List ℕ) → separator < 0x21 → list_all is_visible text ≡ true → is_without separator text ≡ true
visible-without separator [] low h = refl
visible-without separator (byte ∷ text) low h =
    let parts = and_parts (is_visible byte) (list_all is_visible text) h in
    let other : not (eqb byte separator) ≡ true = let here = parts.0 in grind (arith, nat_tests) in
    and_from (not (eqb byte separator)) (is_without separator text) other (visible-without separator text low parts.1)

glyph_visible : (d : ℕ) → d < 16 → is_visible (digit_glyph true d) ≡ true
glyph_visible d small = grind (arith, nat_tests)

both : (a b : Bool) → a ≡ true → b ≡ true → (a && b) ≡ true
both a b h k = and_from a b h k

plain_visible : (byte : ℕ) → is_plain byte ≡ true → is_visible byte ≡ true
plain_visible byte h = (and_parts (is_visible byte) (not (eqb byte 37)) h).0

shown_visible : (byte : ℕ) → byte < 256 → list_all is_visible (shown_byte byte) ≡ true
shown_visible byte small = shown (is_plain byte) refl
  where
    shown : (b : Bool) → is_plain byte ≡ b → list_all is_visible (if b then byte ∷ [] else 37 ∷ digit_glyph true (byte / 16) ∷ digit_glyph true (byte % 16) ∷ []) ≡ true
    shown true plain = both (is_visible byte) true (plain_visible byte plain) refl
    shown false plain =
        both (is_visible (digit_glyph true (byte / 16))) _ (glyph_visible (byte / 16) (omega arith))
        (both (is_visible (digit_glyph true (byte % 16))) true (glyph_visible (byte % 16) (omega arith)) refl)

small_byte : (byte : ℕ) → nat_lt byte 256 ≡ true → byte < 256
small_byte byte h = grind (arith, nat_tests)

all_visible : (text : List ℕ) → are_bytes text ≡ true → list_all is_visible (flat_map shown_byte text) ≡ true
all_visible [] h = refl
all_visible (byte ∷ text) h =
    let parts = and_parts (nat_lt byte 256) (are_bytes text) h in
    visible-append (shown_byte byte) (flat_map shown_byte text) (shown_visible byte (small_byte byte parts.0)) (all_visible text parts.1)

pub percent_visible : (text : List ℕ) → HasNoBlank text
percent_visible [] h = refl
percent_visible (byte ∷ text) h = all_visible (byte ∷ text) h

-- ---- decimal digits are visible

digit_visible : (n : ℕ) → is_visible (digit_glyph false (n % 10)) ≡ true
digit_visible n = let small : n % 10 < 10 = omega arith in grind (arith, nat_tests)

onto_visible : (k n : ℕ) (acc : List ℕ) → list_all is_visible acc ≡ true → list_all is_visible (digits_onto k 10 false n acc) ≡ true
onto_visible zero n acc h = h
onto_visible (suc k) n acc h =
    let more = both (is_visible (digit_glyph false (n % 10))) (list_all is_visible acc) (digit_visible n) h in
    last (eqb (n / 10) 0) more (onto_visible k (n / 10) (digit_glyph false (n % 10) ∷ acc) more)
  where
    last : (b : Bool) → list_all is_visible (digit_glyph false (n % 10) ∷ acc) ≡ true
        → list_all is_visible (digits_onto k 10 false (n / 10) (digit_glyph false (n % 10) ∷ acc)) ≡ true
        → list_all is_visible (if b then digit_glyph false (n % 10) ∷ acc else digits_onto k 10 false (n / 10) (digit_glyph false (n % 10) ∷ acc)) ≡ true
    last true more rest = more
    last false more rest = rest

pub decimal_visible : (n : ℕ) → list_all is_visible (decimal n) ≡ true
unfolding digits
decimal_visible n = onto_visible 64 n [] refl

-- ---- what is shown is told again

glyphs_apart : (d e : ℕ) → d < 16 → e < 16 → digit_glyph true d ≡ digit_glyph true e → d ≡ e
glyphs_apart d e small_d small_e same = grind (arith, nat_tests)

-- the first byte shown, and what follows it
first_shown : (a b : ℕ) (x y : List ℕ) → a < 256 → b < 256 → shown_byte a ++ x ≡ shown_byte b ++ y → (a ≡ b) × (x ≡ y)
first_shown a b x y small_a small_b same = shown (is_plain a) (is_plain b) refl refl same
  where
    shown : (p q : Bool) → is_plain a ≡ p → is_plain b ≡ q → (if p then a ∷ [] else 37 ∷ digit_glyph true (a / 16) ∷ digit_glyph true (a % 16) ∷ []) ++ x
        ≡ (if q then b ∷ [] else 37 ∷ digit_glyph true (b / 16) ∷ digit_glyph true (b % 16) ∷ []) ++ y → (a ≡ b) × (x ≡ y)
    shown true true is_a is_b e = (cc, cc)
    shown true false is_a is_b e =
        let same : a ≡ 37 = cc in
        let percent : is_plain a ≡ false = ap is_plain same in
        absurd cc
    shown false true is_a is_b e =
        let same : b ≡ 37 = cc in
        let percent : is_plain b ≡ false = ap is_plain same in
        absurd cc
    shown false false is_a is_b e =
        let high : digit_glyph true (a / 16) ≡ digit_glyph true (b / 16) = cc in
        let low : digit_glyph true (a % 16) ≡ digit_glyph true (b % 16) = cc in
        let same_high = glyphs_apart (a / 16) (b / 16) (omega arith) (omega arith) high in
        let same_low = glyphs_apart (a % 16) (b % 16) (omega arith) (omega arith) low in
        (omega arith, cc)

-- no text is shown as nothing, and no other as `%` alone
some_shown : (byte : ℕ) (x : List ℕ) → (shown_byte byte ++ x ≡ [] → ⊥) × (shown_byte byte ++ x ≡ 37 ∷ [] → ⊥)
some_shown byte x = shown (is_plain byte) refl
  where
    form : Bool → List ℕ
    form p = (if p then byte ∷ [] else 37 ∷ digit_glyph true (byte / 16) ∷ digit_glyph true (byte % 16) ∷ []) ++ x

    shown : (p : Bool) → is_plain byte ≡ p → (form p ≡ [] → ⊥) × (form p ≡ 37 ∷ [] → ⊥)
    shown true plain = (λ e. cc, λ e. let same : byte ≡ 37 = cc in let percent : is_plain byte ≡ false = ap is_plain same in cc)
    shown false plain = (λ e. cc, λ e. cc)

all_shown : (a b : List ℕ) → are_bytes a ≡ true → are_bytes b ≡ true → flat_map shown_byte a ≡ flat_map shown_byte b → a ≡ b
all_shown [] [] h k same = refl
all_shown [] (y ∷ b) h k same = absurd ((some_shown y (flat_map shown_byte b)).0 (sym same))
all_shown (x ∷ a) [] h k same = absurd ((some_shown x (flat_map shown_byte a)).0 same)
all_shown (x ∷ a) (y ∷ b) h k same =
    let here = and_parts (nat_lt x 256) (are_bytes a) h in
    let there = and_parts (nat_lt y 256) (are_bytes b) k in
    let first = first_shown x y (flat_map shown_byte a) (flat_map shown_byte b) (small_byte x here.0) (small_byte y there.0) same in
    let rest = all_shown a b here.1 there.1 first.1 in
    let head = first.0 in
    cc

pub percent_apart : (a b : List ℕ) → are_bytes a ≡ true → are_bytes b ≡ true → percent_form a ≡ percent_form b → a ≡ b
percent_apart [] [] h k same = refl
percent_apart [] (y ∷ b) h k same = absurd ((some_shown y (flat_map shown_byte b)).1 (sym same))
percent_apart (x ∷ a) [] h k same = absurd ((some_shown x (flat_map shown_byte a)).1 same)
percent_apart (x ∷ a) (y ∷ b) h k same = all_shown (x ∷ a) (y ∷ b) h k same
