-- Salts in their 16 bytes.
use Rattle.std.proofs.Common.{◌≡◌, ◌-◌, ℕ, List, ◌++◌, length, take, drop, replicate, true, ◌&&◌, IsTrue, Option, Some, None, cond, ap, refl, ◌∙◌}
use Rattle.std.proofs.lemmas.Bool.{and_from}
use Rattle.std.proofs.Math.Seq.{take-append_seam}
use Rattle.std.proofs.lemmas.List.{drop-replicate}
use Rattle.sha_crypt.specs.HashText.{HashParts, filled, are_rounds, is_salt, is_digest, is_hash}

pub padded_is : (salt front : List ℕ) → front ≡ salt → front ++ drop (length salt) (replicate 16 0) ≡ filled salt
unfolding filled
padded_is salt front e = rw (e, drop-replicate {X = ℕ} (length salt) 16 0) refl

take-filled : (salt bytes : List ℕ) → bytes ≡ filled salt → take (length salt) bytes ≡ salt
unfolding filled
take-filled salt bytes e = ap (take (length salt)) e ∙ take-append_seam salt (replicate (16 - length salt) 0)

-- parts that are right are those of a hash
right : (hash : HashParts) → are_rounds hash.rounds ≡ true → is_salt hash.salt ≡ true → is_digest hash.symbols ≡ true → is_hash hash ≡ true
right hash rounds salt symbols =
    and_from (are_rounds hash.rounds && is_salt hash.salt) (is_digest hash.symbols)
    (and_from (are_rounds hash.rounds) (is_salt hash.salt) rounds salt) symbols

pub hash_made : (rounds : Option ℕ) (salt bytes symbols : List ℕ) → bytes ≡ filled salt
    → are_rounds rounds ≡ true → is_salt salt ≡ true → is_digest symbols ≡ true
    → (bytes ≡ filled (take (length salt) bytes)) × (length salt ≡ length (take (length salt) bytes))
    × IsTrue (is_hash (record { rounds = rounds; salt = take (length salt) bytes; symbols = symbols }))
hash_made rounds salt bytes symbols e rounds_right salt_right symbols_right =
    let salt_is = take-filled salt bytes e in
    rw salt_is (e, refl, right (record { rounds = rounds; salt = salt; symbols = symbols }) rounds_right salt_right symbols_right)

pub hash_read : (rounds : Option ℕ) (salt bytes symbols : List ℕ) → bytes ≡ filled salt
    → are_rounds rounds ≡ true → is_salt salt ≡ true → is_digest symbols ≡ true
    → (hash : HashParts) → record { rounds = rounds; salt = salt; symbols = symbols } ≡ hash
    → Some (record { rounds = rounds; salt = take (length salt) bytes; symbols = symbols })
    ≡ cond (is_hash hash) (Some hash) None
hash_read rounds salt bytes symbols e rounds_right salt_right symbols_right hash same =
    let parts : HashParts = record { rounds = rounds; salt = salt; symbols = symbols } in
    let now : Some parts ≡ cond (is_hash parts) (Some parts) None = rw (right parts rounds_right salt_right symbols_right) refl in
    rw (take-filled salt bytes e) (now ∙ ap (λ (h : HashParts). cond (is_hash h) (Some h) None) same)
