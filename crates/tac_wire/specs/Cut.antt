-- Fields of given lengths, one after another.
use Rattle.std.specs.Prelude.{◌≡◌, ◌≤◌, ℕ, List, [], ◌∷◌, length, map, take, drop, sum}
use Rattle.std.specs.List.{concat}

-- the fields of these lengths that the bytes begin with
abbrev pub cut : List ℕ → List ℕ → List (List ℕ)
cut [] bytes = []
cut (len ∷ lens) bytes = take len bytes ∷ cut lens (drop len bytes)

-- cutting undoes joining, and joining undoes cutting
pub record CutLaws : Type 0 where
  -- there is a field for each length
  pub many : (lens bytes : List ℕ) → length (cut lens bytes) ≡ length lens
  -- each field has its length
  pub lengths : (lens bytes : List ℕ) → sum lens ≤ length bytes
      → map length (cut lens bytes) ≡ lens
  -- the fields, joined again, are what the bytes were
  pub joined : (lens bytes : List ℕ) → sum lens ≡ length bytes → concat (cut lens bytes) ≡ bytes
  -- fields that were joined are cut again
  pub again : (fields : List (List ℕ)) → cut (map length fields) (concat fields) ≡ fields
