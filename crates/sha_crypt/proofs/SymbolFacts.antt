-- The text of a hash has symbols alone.
use Rattle.std.proofs.Common.{◌≡◌, ◌<◌, ◌+◌, ◌%◌, ◌^◌, ℕ, true, ◌&&◌, eqb, nat_le, nat_lt, List, [], ◌∷◌, ◌++◌, length, Option, Some, None, codes, refl, ◌∙◌, arith}
use Rattle.std.specs.List.{list_all}
use Rattle.std.specs.Fmt.{decimal}
use Rattle.std.proofs.lemmas.Bool.{and_parts, and_from, leb-true}
use Rattle.std.proofs.lemmas.Bool.Decides.{nat_tests}
use Rattle.std.proofs.lemmas.Fmt.{decimal_by_steps}
use Rattle.std.proofs.lemmas.List.Folds.{list_all-append}
use Rattle.basics.specs.Symbol.{is_text, is_symbol}
use Rattle.sha_crypt.specs.HashText.{HashParts, is_hash_symbol, are_rounds, is_salt, is_digest, is_hash, rounds_text, hash_text}

joined : (a b : List ℕ) → is_text a ≡ true → is_text b ≡ true → is_text (a ++ b) ≡ true
joined a b left right = list_all-append is_symbol a b ∙ and_from (is_text a) (is_text b) left right

symbol : (byte : ℕ) → is_hash_symbol byte ≡ true → is_symbol byte ≡ true
unfolding is_hash_symbol
symbol byte right = grind (arith, nat_tests)

symbols : (text : List ℕ) → list_all is_hash_symbol text ≡ true → is_text text ≡ true
symbols [] right = refl
symbols (byte ∷ text) right =
    let parts = and_parts (is_hash_symbol byte) (list_all is_hash_symbol text) right in
    and_from (is_symbol byte) (is_text text) (symbol byte parts.0) (symbols text parts.1)

digit : (n : ℕ) → n < 10 → is_text ((48 + n) ∷ []) ≡ true
digit n small = grind (arith, nat_tests)

decimal_text : (n : ℕ) → n < 2 ^ 64 → is_text (decimal n) ≡ true
decimal_text = decimal_by_steps (λ n digits. is_text digits ≡ true) digit (λ n front more front_text. joined front ((48 + n % 10) ∷ []) front_text (digit (n % 10) (omega arith)))

rounds_are_text : (rounds : Option ℕ) → are_rounds rounds ≡ true → is_text (rounds_text rounds) ≡ true
rounds_are_text None right = refl
rounds_are_text (Some n) right =
    let bound = leb-true n 999999 (and_parts (nat_le 1000 n) (nat_le n 999999) right).1 in
    joined (codes "rounds=" ++ decimal n) (codes "$") (joined (codes "rounds=") (decimal n) refl (decimal_text n (omega arith))) refl

pub hash_is_text : (hash : HashParts) → is_hash hash ≡ true → is_text (hash_text hash) ≡ true
hash_is_text hash right =
    let outer = and_parts (are_rounds hash.rounds && is_salt hash.salt) (is_digest hash.symbols) right in
    let inner = and_parts (are_rounds hash.rounds) (is_salt hash.salt) outer.0 in
    let salt = symbols hash.salt (and_parts (nat_lt 0 (length hash.salt) && nat_le (length hash.salt) 16) (list_all is_hash_symbol hash.salt) inner.1).1 in
    let digest = symbols hash.symbols (and_parts (eqb (length hash.symbols) 86) (list_all is_hash_symbol hash.symbols) outer.1).1 in
    let first = joined (codes "$6$") (rounds_text hash.rounds) refl (rounds_are_text hash.rounds inner.0) in
    let second = joined (codes "$6$" ++ rounds_text hash.rounds) hash.salt first salt in
    let third = joined (codes "$6$" ++ rounds_text hash.rounds ++ hash.salt) (codes "$") second refl in
    joined (codes "$6$" ++ rounds_text hash.rounds ++ hash.salt ++ codes "$") hash.symbols third digest
