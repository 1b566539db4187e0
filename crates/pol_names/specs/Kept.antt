-- Secrets as a policy keeps them: in the clear, or as the hash of a password.
use Rattle.std.specs.Prelude.{◌≡◌, ℕ, List, ◌++◌, Bool, false}
use Rattle.std.specs.Bool.{Decides}
use Rattle.std.specs.Str.{bytes_eq}
use Rattle.std.proofs.Common.{ap}
use Rattle.std.proofs.lemmas.Slice.Eq.{bytes_eq-Decides}
use Rattle.sha_crypt.specs.HashText.{is_hash, hash_text}
use Rattle.sha_crypt.specs.SameHash.{same_hash, same_hash-Decides}
use Rattle.pol_names.specs.Secret.{is_secret, credential_word, hash_word}
use Rattle.pol_names.specs.declared.secret.Credential.{Credential}
use Rattle.pol_names.specs.declared.secret.Secret.{Secret}
use Rattle.pol_names.specs.declared.secret.Secret.TheVariants.{Clear, Hashed}

abbrev pub is_right_secret : Secret → Bool
is_right_secret (Clear text) = is_secret text
is_right_secret (Hashed hash) = is_hash hash

-- the line that sets the secret
abbrev pub secret_line : Credential → Secret → List ℕ
secret_line credential (Clear text) = credential_word credential ++ text
secret_line credential (Hashed hash) = hash_word credential ++ hash_text hash

-- ---- the same secret

abbrev pub same_secret : Secret → Secret → Bool
same_secret (Clear a) (Clear b) = bytes_eq a b
same_secret (Clear a) (Hashed b) = false
same_secret (Hashed a) (Clear b) = false
same_secret (Hashed a) (Hashed b) = same_hash a b

-- the test tells
pub same_secret-Decides : (a b : Secret) → Decides (same_secret a b) (a ≡ b)
same_secret-Decides (Clear a) (Clear b) =
    (λ e. ap Clear ((bytes_eq-Decides a b).0 e), λ e. (bytes_eq-Decides a b).1 (cc))
same_secret-Decides (Clear a) (Hashed b) = (λ e. absurd cc, λ e. absurd cc)
same_secret-Decides (Hashed a) (Clear b) = (λ e. absurd cc, λ e. absurd cc)
same_secret-Decides (Hashed a) (Hashed b) =
    (λ e. ap Hashed ((same_hash-Decides a b).0 e), λ e. (same_hash-Decides a b).1 (cc))
