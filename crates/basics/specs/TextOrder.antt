-- The order of texts, and the least text of which a fact holds.
use Rattle.std.specs.Prelude.{◌≡◌, ◌⊎◌, ◌<◌, ℕ, List, [], ◌∷◌, length}

-- where the texts differ first, this one has the lower symbol
abbrev pub IsLower : List ℕ → List ℕ → Type 0
IsLower [] others = ⊥
IsLower (symbol ∷ symbols) [] = ⊥
IsLower (symbol ∷ symbols) (other ∷ others) =
    (symbol < other) ⊎ ((symbol ≡ other) × IsLower symbols others)

-- the shorter text comes first; of two texts of one length the one with the lower
-- symbol where they differ first
abbrev pub IsBefore : List ℕ → List ℕ → Type 0
IsBefore text other =
    (length text < length other) ⊎ ((length text ≡ length other) × IsLower text other)

-- the fact holds of the text, and no text of which it holds comes earlier
abbrev pub IsLeast : (List ℕ → Type 0) → List ℕ → Type 0
IsLeast fact text = fact text × ((other : List ℕ) → fact other → ¬ (IsBefore other text))
