-- Fields without a space, and the parts of a line.
use Rattle.std.proofs.Common.{◌≡◌, ℕ, ◌+◌, ◌-◌, ◌*◌, ◌&&◌, Bool, true, false, not, cond, eqb, List, [], ◌∷◌, ◌++◌, length, Option, Some, None, IsTrue, nat_le, nat_lt, refl, ap, ◌∙◌, append_assoc, arith}
use Rattle.std.specs.Option.{option_map}
use Rattle.std.specs.List.{list_all}
use Rattle.std.proofs.lemmas.Bool.Decides.{nat_tests}
use Rattle.std.proofs.lemmas.Bool.{and_parts, and_from, eqb-true}
use Rattle.basics.specs.Lines.{split_at_first}
use Rattle.basics.specs.Number.{digits_after, number_of}
use Rattle.pol_names.specs.Name.{is_name, is_name_byte}

-- ---- the same, joined from the left and from the right

pub joined_4 : (a b c d : List ℕ) → ((a ++ b) ++ c) ++ d ≡ a ++ (b ++ (c ++ d))
joined_4 a b c d = simp append_assoc

pub joined_6 : (a b c d e f : List ℕ) → ((((a ++ b) ++ c) ++ d) ++ e) ++ f ≡ a ++ (b ++ (c ++ (d ++ (e ++ f))))
joined_6 a b c d e f = simp append_assoc

pub joined_7 : (a b c d e f g : List ℕ) → (((((a ++ b) ++ c) ++ d) ++ e) ++ f) ++ g ≡ a ++ (b ++ (c ++ (d ++ (e ++ (f ++ g)))))
joined_7 a b c d e f g = simp append_assoc

-- ---- texts without a space

abbrev pub is_spaceless : List ℕ → Bool
is_spaceless [] = true
is_spaceless (byte ∷ bytes) = not (eqb byte 32) && is_spaceless bytes

-- ---- what is read back

not_true : (b : Bool) → not b ≡ true → b ≡ false
not_true true e = absurd cc
not_true false e = refl

pub split_whole : (text : List ℕ) → is_spaceless text ≡ true → split_at_first 32 text ≡ None
split_whole [] plain = refl
split_whole (byte ∷ text) plain =
    let parts = and_parts (not (eqb byte 32)) (is_spaceless text) plain in
    rw (not_true (eqb byte 32) parts.0, split_whole text parts.1) refl

pub split_front : (text rest : List ℕ) → is_spaceless text ≡ true → split_at_first 32 (text ++ 32 ∷ rest) ≡ Some (text, rest)
split_front [] rest plain = refl
split_front (byte ∷ text) rest plain =
    let parts = and_parts (not (eqb byte 32)) (is_spaceless text) plain in
    rw (not_true (eqb byte 32) parts.0, split_front text rest parts.1) refl

name_byte : (byte : ℕ) → is_name_byte byte ≡ true → not (eqb byte 32) ≡ true
unfolding is_name_byte
name_byte byte test = grind (arith, nat_tests)

name_bytes : (text : List ℕ) → list_all is_name_byte text ≡ true → is_spaceless text ≡ true
name_bytes [] test = refl
name_bytes (byte ∷ text) test =
    let parts = and_parts (is_name_byte byte) (list_all is_name_byte text) test in
    and_from (not (eqb byte 32)) (is_spaceless text) (name_byte byte parts.0) (name_bytes text parts.1)

pub name_spaceless : (text : List ℕ) → IsTrue (is_name text) → is_spaceless text ≡ true
name_spaceless text right =
    name_bytes text (and_parts (nat_lt 0 (length text) && nat_le (length text) 32) (list_all is_name_byte text) right).1

digits_case : (byte : ℕ) (text : List ℕ) (b : Bool) (o : Option ℕ) (n : ℕ) → (b ≡ true → not (eqb byte 32) ≡ true) → (o ≡ Some n → is_spaceless text ≡ true)
    → cond b o None ≡ Some n → is_spaceless (byte ∷ text) ≡ true
digits_case byte text true o n here rest e = and_from (not (eqb byte 32)) (is_spaceless text) (here refl) (rest e)
digits_case byte text false o n here rest e = absurd cc

digits_spaceless : (value n : ℕ) (text : List ℕ) → digits_after value text ≡ Some n → is_spaceless text ≡ true
digits_spaceless value n [] e = refl
digits_spaceless value n (byte ∷ text) e =
    digits_case byte text (nat_le 48 byte && nat_le byte 57) (digits_after (value * 10 + (byte - 48)) text) n
    (λ test. grind (arith, nat_tests)) (digits_spaceless (value * 10 + (byte - 48)) n text) e

number_case : (b : Bool) (text : List ℕ) (n : ℕ) → cond b (digits_after 0 text) None ≡ Some n → is_spaceless text ≡ true
number_case true text n e = digits_spaceless 0 n text e
number_case false text n e = absurd cc

pub number_spaceless : (text : List ℕ) (n : ℕ) → number_of 4 text ≡ Some n → is_spaceless text ≡ true
number_spaceless text n e = number_case (nat_lt 0 (length text) && nat_le (length text) 4) text n e

-- ---- what was there

same_parts : (a b : List ℕ × List ℕ) → Some a ≡ Some b → a ≡ b
same_parts a b e = cc

parts_case : (byte : ℕ) (bytes front back : List ℕ) (b : Bool) (parts : Option (List ℕ × List ℕ)) → (b ≡ true → byte ≡ 32)
    → ((p : List ℕ × List ℕ) → parts ≡ Some p → bytes ≡ p.0 ++ 32 ∷ p.1)
    → cond {A = Option (List ℕ × List ℕ)} b (Some ([], bytes)) (option_map (λ parts. (byte ∷ parts.0, parts.1)) parts) ≡ Some (front, back)
    → byte ∷ bytes ≡ front ++ 32 ∷ back
parts_case byte bytes front back true parts here below e =
    let same = same_parts ([], bytes) (front, back) e in
    ap (λ (b : ℕ). b ∷ bytes) (here refl) ∙ ap (λ (q : List ℕ × List ℕ). q.0 ++ 32 ∷ q.1) same
parts_case byte bytes front back false None here below e = absurd cc
parts_case byte bytes front back false (Some p) here below e =
    let same = same_parts (byte ∷ p.0, p.1) (front, back) e in
    ap (λ (rest : List ℕ). byte ∷ rest) (below p refl) ∙ ap (λ (q : List ℕ × List ℕ). q.0 ++ 32 ∷ q.1) same

pub parts_joined : (text front back : List ℕ) → split_at_first 32 text ≡ Some (front, back) → text ≡ front ++ 32 ∷ back
parts_joined [] front back e = absurd cc
parts_joined (byte ∷ text) front back e =
    parts_case byte text front back (eqb byte 32) (split_at_first 32 text) (eqb-true byte 32) (λ p same. parts_joined text p.0 p.1 same) e
