-- Changes at a place of a list.
use Rattle.std.specs.Prelude.{ℕ, zero, suc, List, [], ◌∷◌}

-- the element at this place, counted from 0, is changed
abbrev pub changed_at : {A : Type 0} → ℕ → (A → A) → List A → List A
changed_at at change [] = []
changed_at zero change (x ∷ rest) = change x ∷ rest
changed_at (suc at) change (x ∷ rest) = x ∷ changed_at at change rest
