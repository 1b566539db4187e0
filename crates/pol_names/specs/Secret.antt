-- Secrets: what users log in and enable with.
use Rattle.std.specs.Prelude.{ℕ, List, length, codes, Bool, ◌&&◌, nat_lt, nat_le, Option, Some}
use Rattle.std.specs.Prelude.{None, if◌then◌else◌}
use Rattle.basics.specs.Symbol.{is_text}
use Rattle.pol_names.specs.declared.secret.Credential.{Credential}
use Rattle.pol_names.specs.declared.secret.Credential.TheVariants.{Login, Enable}

-- a secret in the clear: 1 to 128 symbols
abbrev pub is_secret : List ℕ → Bool
is_secret text = nat_lt 0 (length text) && nat_le (length text) 128 && is_text text

abbrev pub secret_of : List ℕ → Option (List ℕ)
secret_of text = if is_secret text then Some text else None

-- what the line begins with that sets a secret in the clear
abbrev pub credential_word : Credential → List ℕ
credential_word Login = codes "login "
credential_word Enable = codes "enable "

-- what the line begins with that sets a hash
abbrev pub hash_word : Credential → List ℕ
hash_word Login = codes "login-hash "
hash_word Enable = codes "enable-hash "
