-- Names have no space, and the parts of a line round its first space.
use Rattle.std.proofs.Common.{◌≡◌, ℕ, ◌&&◌, Bool, true, false, not, cond, eqb, eq-eqb, List, [], ◌∷◌, ◌++◌, length, Option, Some, None, IsTrue, nat_le, nat_lt, refl, ap, ◌∙◌, arith}
use Rattle.std.specs.Option.{option_map}
use Rattle.std.specs.List.{list_all}
use Rattle.std.proofs.lemmas.Bool.Decides.{nat_tests}
use Rattle.std.proofs.lemmas.Bool.{and_parts, and_from, eqb-true, not-true}
use Rattle.basics.specs.Lines.{split_at_first}
use Rattle.pol_names.specs.Name.{is_name, is_name_byte}

-- none of the bytes is this one
abbrev pub is_without : ℕ → List ℕ → Bool
is_without separator [] = true
is_without separator (byte ∷ bytes) = not (eqb byte separator) && is_without separator bytes

pub split_whole : (separator : ℕ) (text : List ℕ) → is_without separator text ≡ true → split_at_first separator text ≡ None
split_whole separator [] plain = refl
split_whole separator (byte ∷ text) plain =
    let parts = and_parts (not (eqb byte separator)) (is_without separator text) plain in
    rw (not-true (eqb byte separator) parts.0, split_whole separator text parts.1) refl

same_byte : (byte : ℕ) → eqb byte byte ≡ true
same_byte byte = eq-eqb byte byte refl

pub split_front : (separator : ℕ) (text rest : List ℕ) → is_without separator text ≡ true
    → split_at_first separator (text ++ separator ∷ rest) ≡ Some (text, rest)
split_front separator [] rest plain = rw same_byte refl
split_front separator (byte ∷ text) rest plain =
    let parts = and_parts (not (eqb byte separator)) (is_without separator text) plain in
    rw (not-true (eqb byte separator) parts.0, split_front separator text rest parts.1) refl

name_byte : (byte : ℕ) → is_name_byte byte ≡ true → not (eqb byte 32) ≡ true
unfolding is_name_byte
name_byte byte test = grind (arith, nat_tests)

name_bytes : (text : List ℕ) → list_all is_name_byte text ≡ true → is_without 32 text ≡ true
name_bytes [] test = refl
name_bytes (byte ∷ text) test =
    let parts = and_parts (is_name_byte byte) (list_all is_name_byte text) test in
    and_from (not (eqb byte 32)) (is_without 32 text) (name_byte byte parts.0) (name_bytes text parts.1)

pub name_spaceless : (text : List ℕ) → IsTrue (is_name text) → is_without 32 text ≡ true
name_spaceless text right =
    name_bytes text (and_parts (nat_lt 0 (length text) && nat_le (length text) 32) (list_all is_name_byte text) right).1

-- ---- what was there

same_parts : (a b : List ℕ × List ℕ) → Some a ≡ Some b → a ≡ b
same_parts a b e = cc

parts_case : (byte : ℕ) (bytes front back : List ℕ) (b : Bool) (parts : Option (List ℕ × List ℕ)) → (b ≡ true → byte ≡ 32)
    → ((p : List ℕ × List ℕ) → parts ≡ Some p → bytes ≡ p.0 ++ 32 ∷ p.1)
    → cond {A = Option (List ℕ × List ℕ)} b (Some ([], bytes)) (option_map (λ parts. (byte ∷ parts.0, parts.1)) parts) ≡ Some (front, back)
    → byte ∷ bytes ≡ front ++ 32 ∷ back
parts_case byte bytes front back true parts here below e =
    let same = same_parts ([], bytes) (front, back) e in
    ap (λ (b : ℕ). b ∷ bytes) (here refl) ∙ ap (λ (q : List ℕ × List ℕ). q.0 ++ 32 ∷ q.1) same
parts_case byte bytes front back false None here below e = absurd cc
parts_case byte bytes front back false (Some p) here below e =
    let same = same_parts (byte ∷ p.0, p.1) (front, back) e in
    ap (λ (rest : List ℕ). byte ∷ rest) (below p refl) ∙ ap (λ (q : List ℕ × List ℕ). q.0 ++ 32 ∷ q.1) same

pub parts_joined : (text front back : List ℕ) → split_at_first 32 text ≡ Some (front, back) → text ≡ front ++ 32 ∷ back
parts_joined [] front back e = absurd cc
parts_joined (byte ∷ text) front back e =
    parts_case byte text front back (eqb byte 32) (split_at_first 32 text) (eqb-true byte 32) (λ p same. parts_joined text p.0 p.1 same) e
