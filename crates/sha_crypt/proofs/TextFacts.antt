-- A hash's text is read as that hash, and nothing else is.
use Rattle.std.proofs.Common.{◌≡◌, ◌<◌, ◌≤◌, ◌+◌, ◌%◌, ◌^◌, ℕ, Bool, true, false, not, ◌&&◌, eqb, nat_le, nat_lt, List, [], ◌∷◌, ◌++◌, length, Option, Some, None, IsTrue, IfSome, cond, codes, rules, refl, sym, ap, ◌∙◌, append_assoc, arith}
use Rattle.std.specs.Option.{option_map_or}
use Rattle.std.specs.List.{list_all}
use Rattle.std.specs.Str.{bytes_eq}
use Rattle.std.specs.Fmt.{decimal}
use Rattle.std.proofs.lemmas.Bool.{and_parts, and_from, eq-eqb, not-true, leb-true}
use Rattle.std.proofs.lemmas.Bool.Decides.{nat_tests}
use Rattle.std.proofs.lemmas.Fmt.{decimal_by_steps, length-decimal-le}
use Rattle.std.proofs.lemmas.Slice.Eq.{bytes_eq-Decides}
use Rattle.basics.specs.Lines.{split_at_first}
use Rattle.basics.specs.Number.{number_of}
use Rattle.basics.proofs.NumberFacts.{number_of-decimal}
use Rattle.sha_crypt.specs.HashText.{HashParts, is_hash_symbol, are_rounds, is_salt, is_digest, is_hash, hash_text, three_parts, parts_of, spelled_by, hash_of}

-- ---- texts without a separator

abbrev lacks : ℕ → List ℕ → Bool
lacks separator = list_all (λ byte. not (eqb byte separator))

split_first : (separator : ℕ) (text rest : List ℕ) → lacks separator text ≡ true
    → split_at_first separator (text ++ separator ∷ rest) ≡ Some (text, rest)
split_first separator [] rest none = rw (eq-eqb separator separator refl) refl
split_first separator (byte ∷ text) rest none =
    let parts = and_parts (not (eqb byte separator)) (lacks separator text) none in
    rw (not-true (eqb byte separator) parts.0, split_first separator text rest parts.1) refl

split_nowhere : (separator : ℕ) (text : List ℕ) → lacks separator text ≡ true → split_at_first separator text ≡ None
split_nowhere separator [] none = refl
split_nowhere separator (byte ∷ text) none =
    let parts = and_parts (not (eqb byte separator)) (lacks separator text) none in
    rw (not-true (eqb byte separator) parts.0, split_nowhere separator text parts.1) refl

-- ---- salts, digests and numbers have no `$`

no_sign : (byte : ℕ) → is_hash_symbol byte ≡ true → not (eqb byte 36) ≡ true
unfolding is_hash_symbol
no_sign byte symbol = grind (arith, nat_tests)

no_signs : (text : List ℕ) → list_all is_hash_symbol text ≡ true → lacks 36 text ≡ true
no_signs [] symbols = refl
no_signs (byte ∷ text) symbols =
    let parts = and_parts (is_hash_symbol byte) (list_all is_hash_symbol text) symbols in
    and_from (not (eqb byte 36)) (lacks 36 text) (no_sign byte parts.0) (no_signs text parts.1)

digit_lacks : (n : ℕ) → n < 10 → lacks 36 ((48 + n) ∷ []) ≡ true
digit_lacks n small = grind (arith, nat_tests)

digits_lack : (front : List ℕ) (n : ℕ) → n < 10 → lacks 36 front ≡ true → lacks 36 (front ++ (48 + n) ∷ []) ≡ true
digits_lack [] n small none = digit_lacks n small
digits_lack (byte ∷ front) n small none =
    let parts = and_parts (not (eqb byte 36)) (lacks 36 front) none in
    and_from (not (eqb byte 36)) (lacks 36 (front ++ (48 + n) ∷ [])) parts.0 (digits_lack front n small parts.1)

decimal_lacks : (n : ℕ) → n < 2 ^ 64 → lacks 36 (decimal n) ≡ true
decimal_lacks = decimal_by_steps (λ n digits. lacks 36 digits ≡ true) digit_lacks (λ n front more none. digits_lack front (n % 10) (omega arith) none)

-- ---- what is spelled so is read

same_text : (text : List ℕ) → bytes_eq text text ≡ true
same_text text = (bytes_eq-Decides text text).1 refl

-- parts that are right are those of their text
spelled : (hash : HashParts) → is_hash hash ≡ true → spelled_by (hash_text hash) hash ≡ Some hash
spelled hash right = rw (right, same_text (hash_text hash)) refl

abbrev cut_parts : Option (List ℕ × List ℕ) → Option HashParts
cut_parts cut = option_map_or (λ parts. Some (three_parts parts.0 parts.1 (split_at_first 36 parts.1))) cut None

cut_first : (front rest : List ℕ) → lacks 36 front ≡ true
    → cut_parts (split_at_first 36 (front ++ 36 ∷ rest)) ≡ Some (three_parts front rest (split_at_first 36 rest))
cut_first front rest none = ap cut_parts (split_first 36 front rest none)

-- the digits of rounds are few
pub short : (rounds : Option ℕ) (n : ℕ) → are_rounds rounds ≡ true → rounds ≡ Some n → length (decimal n) ≤ 6
short None n right e = absurd cc
short (Some m) n right e =
    let same : m ≡ n = cc in
    let bound = leb-true m 999999 (and_parts (nat_le 1000 m) (nat_le m 999999) right).1 in
    length-decimal-le 6 n (omega arith) (omega arith) (omega arith)

named : (n : ℕ) → nat_le 1000 n && nat_le n 999999 ≡ true → number_of 6 (decimal n) ≡ Some n
named n right =
    let bound = leb-true n 999999 (and_parts (nat_le 1000 n) (nat_le n 999999) right).1 in
    number_of-decimal 6 n (omega arith) (short (Some n) n right refl)

few : (n : ℕ) → nat_le 1000 n && nat_le n 999999 ≡ true → lacks 36 (decimal n) ≡ true
few n right =
    let bound = leb-true n 999999 (and_parts (nat_le 1000 n) (nat_le n 999999) right).1 in
    decimal_lacks n (omega arith)

regrouped : (front salt symbols : List ℕ) → ((((front ++ 36 ∷ []) ++ salt) ++ 36 ∷ []) ++ symbols) ≡ front ++ 36 ∷ (salt ++ 36 ∷ symbols)
regrouped front salt symbols =
    append_assoc ((front ++ 36 ∷ []) ++ salt) (36 ∷ []) symbols
    ∙ append_assoc (front ++ 36 ∷ []) salt (36 ∷ symbols) ∙ append_assoc front (36 ∷ []) (salt ++ 36 ∷ symbols)

parts_spelled : (rounds : Option ℕ) (salt symbols : List ℕ) → are_rounds rounds ≡ true → lacks 36 salt ≡ true → lacks 36 symbols ≡ true
    → parts_of (hash_text (record { rounds = rounds; salt = salt; symbols = symbols }))
    ≡ Some (record { rounds = rounds; salt = salt; symbols = symbols })
parts_spelled None salt symbols rounds_right salt_lacks symbols_lack =
    ap (λ (t : List ℕ). cut_parts (split_at_first 36 t)) (append_assoc salt (36 ∷ []) symbols)
    ∙ cut_first salt symbols salt_lacks
    ∙ ap (λ (inner : Option (List ℕ × List ℕ)). Some (three_parts salt symbols inner)) (split_nowhere 36 symbols symbols_lack)
parts_spelled (Some n) salt symbols rounds_right salt_lacks symbols_lack =
    let front : List ℕ = codes "rounds=" ++ decimal n in
    let inner : List ℕ = salt ++ 36 ∷ symbols in
    ap (λ (t : List ℕ). cut_parts (split_at_first 36 t)) (regrouped front salt symbols)
    ∙ cut_first front inner (few n rounds_right)
    ∙ ap (λ (cut : Option (List ℕ × List ℕ)). Some (three_parts front inner cut)) (split_first 36 salt symbols salt_lacks)
    ∙ ap (λ (rounds : Option ℕ). Some (record { rounds = rounds; salt = salt; symbols = symbols })) (named n rounds_right)

pub again : (hash : HashParts) → is_hash hash ≡ true → hash_of (hash_text hash) ≡ Some hash
again hash right =
    let outer = and_parts (are_rounds hash.rounds && is_salt hash.salt) (is_digest hash.symbols) right in
    let inner = and_parts (are_rounds hash.rounds) (is_salt hash.salt) outer.0 in
    let salt_symbols = (and_parts (nat_lt 0 (length hash.salt) && nat_le (length hash.salt) 16) (list_all is_hash_symbol hash.salt) inner.1).1 in
    let symbols = (and_parts (eqb (length hash.symbols) 86) (list_all is_hash_symbol hash.symbols) outer.1).1 in
    ap (λ (parts : Option HashParts). option_map_or (spelled_by (hash_text hash)) parts None)
    (parts_spelled hash.rounds hash.salt hash.symbols inner.0 (no_signs hash.salt salt_symbols) (no_signs hash.symbols symbols))
    ∙ spelled hash right

-- ---- what is read is spelled so

spelled_back : (text : List ℕ) (parts hash : HashParts) (test : Bool) → test ≡ (is_hash parts && bytes_eq (hash_text parts) text)
    → Some hash ≡ cond test (Some parts) None → IsTrue (is_hash hash) × (text ≡ hash_text hash)
spelled_back text parts hash false t e = absurd cc
spelled_back text parts hash true t e =
    let same : hash ≡ parts = cc in
    let tests = and_parts (is_hash parts) (bytes_eq (hash_text parts) text) (sym t) in
    rw same (tests.0, sym ((bytes_eq-Decides (hash_text parts) text).0 tests.1))

found_in : (text : List ℕ) (parts : Option HashParts) (hash : HashParts) → Some hash ≡ option_map_or (spelled_by text) parts None
    → IsTrue (is_hash hash) × (text ≡ hash_text hash)
found_in text None hash e = absurd cc
found_in text (Some parts) hash e = spelled_back text parts hash (is_hash parts && bytes_eq (hash_text parts) text) refl e

pub found : (text : List ℕ) (read : Option HashParts) → read ≡ hash_of text
    → IfSome read (λ hash. IsTrue (is_hash hash) × (text ≡ hash_text hash))
found text None e = search rules
found text (Some hash) e = found_in text (parts_of text) hash e

-- ---- what is read is that of the text

chosen_is : (parts hash : HashParts) (right : Bool) → Some hash ≡ cond right (Some parts) None → (right ≡ true) × (hash ≡ parts)
chosen_is parts hash false e = absurd cc
chosen_is parts hash true e = (refl, cc)

pub read_is : (text : List ℕ) (parts hash : HashParts) → Some parts ≡ parts_of text → Some hash ≡ cond (is_hash parts) (Some parts) None
    → (same : Bool) → same ≡ bytes_eq (hash_text hash) text → cond same (Some hash) None ≡ hash_of text
read_is text parts hash e right same tested =
    let chosen = chosen_is parts hash (is_hash parts) right in
    let made : spelled_by text parts ≡ cond (bytes_eq (hash_text parts) text) (Some parts) None = rw chosen.0 refl in
    ap (λ (b : Bool). cond b (Some hash) None) tested
    ∙ ap (λ (h : HashParts). cond (bytes_eq (hash_text h) text) (Some h) None) chosen.1
    ∙ sym made ∙ ap (λ (p : Option HashParts). option_map_or (spelled_by text) p None) e
