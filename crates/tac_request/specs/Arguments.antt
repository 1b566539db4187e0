-- Arguments of a reply (RFC 8907, section 6.2): the one that carries a privilege level, and which
-- are the same.
use Rattle.std.specs.Prelude.{◌≡◌, ℕ, List, [], ◌∷◌, ◌++◌, Bool, true, Option, Some, None, codes}
use Rattle.std.specs.Bool.{Decides}
use Rattle.std.specs.Cmp.Lexicographic.{pointwise}
use Rattle.std.specs.Fmt.{decimal}
use Rattle.std.specs.Str.{bytes_eq}
use Rattle.std.proofs.Common.{refl}
use Rattle.std.proofs.lemmas.Slice.Eq.{bytes_eq-Decides, slice_eq-Decides}

-- the argument that carries a privilege level: `priv-lvl=N`
abbrev pub level_argument : ℕ → List ℕ
level_argument level = codes "priv-lvl=" ++ decimal level

-- these are all arguments of a reply that has a level at most
abbrev pub level_arguments : Option ℕ → List (List ℕ)
level_arguments None = []
level_arguments (Some level) = level_argument level ∷ []

-- ---- the test tells

abbrev pub same_arguments : List (List ℕ) → List (List ℕ) → Bool
same_arguments a b = pointwise bytes_eq a b

pub same_arguments-Decides : (a b : List (List ℕ)) → Decides (same_arguments a b) (a ≡ b)
same_arguments-Decides a b = slice_eq-Decides bytes_eq-Decides a b (same_arguments a b) refl

pub same_arguments-identical : (a b : List (List ℕ)) → same_arguments a b ≡ true → a ≡ b
same_arguments-identical a b e = (same_arguments-Decides a b).0 e
