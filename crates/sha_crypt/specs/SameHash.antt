-- Which hashes are the same: those of one text.
use Rattle.std.specs.Prelude.{◌≡◌, ℕ, ◌==◌, List, Bool, ◌&&◌, Option, Some, None}
use Rattle.std.specs.Prelude.{refl}
use Rattle.std.specs.Bool.{Decides}
use Rattle.std.specs.Cmp.{unsigned_Decides}
use Rattle.std.specs.Option.{option_eq}
use Rattle.std.specs.Str.{bytes_eq}
use Rattle.std.proofs.Common.{ap, ◌∙◌}
use Rattle.std.proofs.lemmas.Bool.Decides.{Decides-like, Decides-and}
use Rattle.std.proofs.lemmas.Slice.Eq.{bytes_eq-Decides}
use Rattle.sha_crypt.specs.HashText.{HashParts}

abbrev pub same_hash : HashParts → HashParts → Bool
same_hash a b =
    option_eq (λ m n. m == n) a.rounds b.rounds
    && (bytes_eq a.salt b.salt && bytes_eq a.symbols b.symbols)

-- ---- the test tells

rounds-Decides : (a b : Option ℕ) → Decides (option_eq (λ m n. m == n) a b) (a ≡ b)
rounds-Decides None None = (λ e. refl, λ e. refl)
rounds-Decides None (Some y) = (λ e. absurd cc, λ e. absurd cc)
rounds-Decides (Some x) None = (λ e. absurd cc, λ e. absurd cc)
rounds-Decides (Some x) (Some y) =
    (λ e. ap Some ((unsigned_Decides x y).0 e), λ e. (unsigned_Decides x y).1 (cc))

made_so : (a b : HashParts) → (a.rounds ≡ b.rounds) × ((a.salt ≡ b.salt) × (a.symbols ≡ b.symbols))
    → a ≡ b
made_so a b (rounds, (salt, symbols)) =
    ap (λ (x : Option ℕ). record { rounds = x; salt = a.salt; symbols = a.symbols }) rounds
    ∙ ap (λ (x : List ℕ). record { rounds = b.rounds; salt = x; symbols = a.symbols }) salt
    ∙ ap (λ (x : List ℕ). record { rounds = b.rounds; salt = b.salt; symbols = x }) symbols

-- it is the same hash exactly if rounds, salt and symbols are the same
pub same_hash-Decides : (a b : HashParts) → Decides (same_hash a b) (a ≡ b)
same_hash-Decides a b =
    Decides-like (same_hash a b) (made_so a b)
    (λ (e : a ≡ b). (
      ap (λ (hash : HashParts). hash.rounds) e,
      (ap (λ (hash : HashParts). hash.salt) e, ap (λ (hash : HashParts). hash.symbols) e),
    ))
    (Decides-and _ _ (rounds-Decides a.rounds b.rounds)
    (Decides-and _ _ (bytes_eq-Decides a.salt b.salt) (bytes_eq-Decides a.symbols b.symbols)))
