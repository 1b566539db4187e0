-- Words over columns, and lists of words of which each goes on from an earlier one.
use Rattle.std.specs.Prelude.{◌<◌, ℕ, List, [], ◌∷◌, ◌++◌, slice_index_or, All}

-- a word is a list of columns, which are the numbers below the width
abbrev pub IsWord : ℕ → List ℕ → Type 0
IsWord width word = All (λ column. column < width) word

-- a word of which the fact holds
abbrev pub IsWordThat : ℕ → (List ℕ → Type 0) → List ℕ → Type 0
IsWordThat width fact word = IsWord width word × fact word

abbrev pub word_at : List (List ℕ) → ℕ → List ℕ
word_at words number = slice_index_or words number []

-- a word with one more column
abbrev pub longer : List ℕ → ℕ → List ℕ
longer word column = word ++ column ∷ []

-- the words with one more, which goes on from that of this number
abbrev pub with_longer : List (List ℕ) → ℕ → ℕ → List (List ℕ)
with_longer words number column = words ++ longer (word_at words number) column ∷ []
