-- The answer to a CHAP challenge (RFC 1994, section 4.1; RFC 8907, section 5.4.2.3).
use Rattle.std.specs.Prelude.{ℕ, List, ◌∷◌, ◌++◌}
use Rattle.md5.specs.Md5.{md5}

-- what a user who knows the secret answers: the digest of the challenge's id, the
-- secret and the challenge
abbrev pub response_to : ℕ → List ℕ → List ℕ → List ℕ
response_to id secret challenge = md5 (id ∷ secret ++ challenge)
