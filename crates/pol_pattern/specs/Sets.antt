-- The set of texts that each part of a pattern holds (docs/DEFINITIONS.md, "The set of a pattern").
use Rattle.std.specs.Prelude.{◌≡◌, ℕ, IsTrue, List, [], ◌∷◌, ◌++◌, ◌⊎◌}
use Rattle.std.specs.List.{AllByRecursion, concat}
use Rattle.pol_pattern.specs.Flat.{Class, holds_symbol, Factor, class, group, star, Term, empty}
use Rattle.pol_pattern.specs.Flat.{put, Terms, none, alt}

-- a class holds its one-symbol texts
abbrev pub InClass : Class → List ℕ → Type 0
InClass c text = (symbol : ℕ) × (text ≡ symbol ∷ []) × IsTrue (holds_symbol c symbol)

-- the joins of finite lists of texts that P holds of, the empty list among them
abbrev pub Joins : (List ℕ → Type 0) → List ℕ → Type 0
Joins P text = (parts : List (List ℕ)) × AllByRecursion P parts × (text ≡ concat parts)

-- a group holds what one of its terms holds, a star the joins of what its terms
-- hold, and a term the texts that split into parts of its factors, in order
abbrev mutual
  pub InFactor : Factor → List ℕ → Type 0
  InFactor (class c) = InClass c
  InFactor (group terms) = InTerms terms
  InFactor (star terms) = Joins (InTerms terms)

  pub InTerm : Term → List ℕ → Type 0
  InTerm empty = λ text. text ≡ []
  InTerm (put factor term) =
      λ text. (front back : List ℕ) × (text ≡ front ++ back) × InFactor factor front
      × InTerm term back

  pub InTerms : Terms → List ℕ → Type 0
  InTerms none = λ text. ⊥
  InTerms (alt term terms) = λ text. InTerm term text ⊎ InTerms terms text
