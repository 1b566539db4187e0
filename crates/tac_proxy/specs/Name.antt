-- The common name of a certificate (RFC 5280, appendix A: ub-common-name).
use Rattle.std.specs.Prelude.{ℕ, ◌-◌, List, ◌++◌, length, replicate, nat_lt, nat_le}
use Rattle.std.specs.Prelude.{Option, Some, None, if◌then◌else◌}

-- how many bytes a name may have
abbrev pub most_name : ℕ
most_name = 64

-- a name that is too long is none
abbrev pub kept_name : List ℕ → Option (List ℕ)
kept_name name = if nat_le (length name) most_name then Some name else None

-- the name that a text spells, which is not empty
abbrev pub name_of : List ℕ → Option (List ℕ)
name_of text = if nat_lt 0 (length text) then kept_name text else None

-- the bytes, followed by zeros up to 64
unfoldable pub filled : List ℕ → List ℕ
filled name = name ++ replicate (64 - length name) 0
