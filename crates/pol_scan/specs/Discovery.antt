-- What a breadth-first scan knows of the states that it has found.
use Rattle.std.specs.Prelude.{◌≡◌, ◌⊎◌, ◌<◌, ◌+◌, ◌*◌, ℕ, Bool, if◌then◌else◌, List, [], length}
use Rattle.std.specs.Prelude.{slice_index, All, AllPairs}
use Rattle.std.specs.List.{AllZip}
use Rattle.basics.specs.TextOrder.{IsBefore}
use Rattle.pol_scan.specs.Words.{word_at, longer, with_longer}
use Rattle.pol_scan.specs.Congruence.{Congruence, AreDifferent}

-- this word, or one after it
abbrev pub IsUpTo : List ℕ → List ℕ → Type 0
IsUpTo word other = (word ≡ other) ⊎ IsBefore word other

-- a found state and a column lead to a found state, whose word comes no later
pub record IsCell (congruence : Congruence) (words : List (List ℕ))
    (state column next : ℕ) : Type 0 where
  pub from : state < length words
  pub within : next < length words
  pub leads : congruence.same (longer (word_at words state) column) (word_at words next)
  pub no_later : IsUpTo (word_at words next) (longer (word_at words state) column)

-- the states found so far, each with a word that leads there, in the order of these words
pub record AreFound {S : Type 0} (congruence : Congruence) (leads : List ℕ → S
    → Type 0) (words : List (List ℕ)) (states : List S) : Type 0 where
  pub different : AreDifferent congruence words
  pub led : AllZip leads words states
  pub rising : AllPairs IsBefore words
  pub first : (0 < length words) × (word_at words 0 ≡ [])

-- each found word comes before the one at which the scan stands
abbrev pub AreAfter : List (List ℕ) → ℕ → ℕ → Type 0
AreAfter words state column =
    All (λ word. IsBefore word (longer (word_at words state) column)) words

-- A column was followed from a found state: the scan stands at the next place of the row. A new
-- state has the last word
pub record Advances {S : Type 0} (congruence : Congruence) (leads : List ℕ → S
    → Type 0) (before words : List (List ℕ)) (states : List S)
    (state column next : ℕ) (is_new : Bool) : Type 0 where
  pub found : AreFound congruence leads words states
  pub after : AreAfter words state (column + 1)
  pub cell : IsCell congruence words state column next
  pub grown : words ≡ (if is_new then with_longer before state column else before)

-- the rows of cells up to the place of the scan
pub record IsFilled (congruence : Congruence) (words : List (List ℕ)) (cells : List ℕ)
    (state column : ℕ) : Type 0 where
  pub size : length cells ≡ state * congruence.width + column
  pub within : All (λ cell. cell < length words) cells
  pub rows : (i c : ℕ) → c < congruence.width → i * congruence.width + c < length cells
      → IsCell congruence words i c (slice_index cells (i * congruence.width + c))

-- A scan that keeps cells stands at this place: if the state is found, each found word comes before
-- the one of this place
pub record StandsAt {S : Type 0} (congruence : Congruence) (leads : List ℕ → S
    → Type 0) (words : List (List ℕ)) (states : List S)
    (cells : List ℕ) (state column : ℕ) : Type 0 where
  pub found : AreFound congruence leads words states
  pub after : state < length words → AreAfter words state column
  pub filled : IsFilled congruence words cells state column

-- the place of a row and a column comes before another
abbrev pub IsEarlier : ℕ → ℕ → ℕ → ℕ → Type 0
IsEarlier state column other last = (state < other) ⊎ ((state ≡ other) × (column < last))

-- A search that keeps no cells stands at this place: the columns before it were followed, and no
-- found word is accepted
pub record SeeksAt {S : Type 0} (congruence : Congruence) (leads : List ℕ → S
    → Type 0) (accepted : List ℕ → Type 0)
    (words : List (List ℕ)) (states : List S) (state column : ℕ) : Type 0 where
  pub found : AreFound congruence leads words states
  pub after : state < length words → AreAfter words state column
  pub followed : (i c : ℕ) → c < congruence.width → IsEarlier i c state column → (next : ℕ)
      × IsCell congruence words i c next
  pub none : All (λ word. ¬ (accepted word)) words
