-- What a connection takes of the memory for packets (docs/REFERENCE.md, "Silent and hostile devices").
use Rattle.std.specs.Prelude.{ℕ, ◌+◌, ◌-◌, ◌^◌, min, nat_le, Bool, if◌then◌else◌}

-- of so many bytes that a connection holds, those that count: the first 4,096 don't
abbrev pub counted : ℕ → ℕ
counted held = held - 4096

-- so many bytes more, as far as 64 bits count
abbrev pub and_more : ℕ → ℕ → ℕ
and_more held bytes = min (held + bytes) (2 ^ 64 - 1)

-- so many bytes fit beside those that are taken, where there may be so many
abbrev pub fits : ℕ → ℕ → ℕ → Bool
fits taken bytes most = nat_le (taken + bytes) most

-- what it holds where so many more were asked for, and granted or not
abbrev pub grown : Bool → ℕ → ℕ → ℕ
grown is_granted held bytes = if is_granted then and_more held bytes else held
