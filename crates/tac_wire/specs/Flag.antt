-- Flags that share a byte.
use Rattle.std.specs.Prelude.{ℕ, Bool, not, ◌==◌, bit_and}

-- whether a byte of flags has this one; the others don't matter
abbrev pub has_flag : ℕ → ℕ → Bool
has_flag flag flags = not (bit_and flags flag == 0)
