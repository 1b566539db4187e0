-- How bytes begin.
use Rattle.std.specs.Prelude.{ℕ, Bool, true, ◌==◌, ◌&&◌, List, [], ◌∷◌}

-- whether the bytes begin so, as far as there are any
abbrev pub agrees : List ℕ → List ℕ → Bool
agrees [] bytes = true
agrees (first ∷ front) [] = true
agrees (first ∷ front) (byte ∷ bytes) = byte == first && agrees front bytes
