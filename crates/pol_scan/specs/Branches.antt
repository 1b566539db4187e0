-- How a list of words is kept.
use Rattle.std.specs.Prelude.{◌<◌, ◌≤◌, ℕ, List, [], ◌∷◌, length, fold, slice_index_or}
use Rattle.pol_scan.specs.Words.{with_longer}
use Rattle.pol_scan.specs.declared.words.Branch.{Branch}

-- the words along the branches, after these
abbrev pub words_from : List (List ℕ) → List Branch → List (List ℕ)
words_from words branches =
    fold (λ known branch. with_longer known branch.parent branch.column) words branches

-- the first word is the empty one
abbrev pub words_along : List Branch → List (List ℕ)
words_along branches = words_from ([] ∷ []) branches

-- each branch goes on from a word before its own
abbrev pub AreRooted : List Branch → Type 0
AreRooted branches =
    (k : ℕ) (d : Branch) → k < length branches → (slice_index_or branches k d).parent ≤ k
