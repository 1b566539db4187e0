-- Alphabets: which column each symbol has, and which is a column's least symbol.
use Rattle.std.specs.Prelude.{◌≡◌, ◌↔◌, ◌<◌, ◌≤◌, ◌-◌, ℕ, IsTrue, List, map, slice_index}
use Rattle.basics.specs.Symbol.{is_symbol, is_text}

-- how many columns there are; the column of each symbol, from the space on; the least symbol of
-- each column
pub record Alphabet : Type 0 where
  pub width : ℕ
  pub columns : List ℕ
  pub least : List ℕ

abbrev pub column_of : Alphabet → ℕ → ℕ
column_of alphabet symbol = slice_index alphabet.columns (symbol - 0x20)

abbrev pub least_of : Alphabet → ℕ → ℕ
least_of alphabet column = slice_index alphabet.least column

-- a text of which the fact holds
abbrev pub IsTextThat : (List ℕ → Type 0) → List ℕ → Type 0
IsTextThat fact text = IsTrue (is_text text) × fact text

-- the word that a text is read as
abbrev pub word_of : Alphabet → List ℕ → List ℕ
word_of alphabet text = map (column_of alphabet) text

-- the text of the least symbols
abbrev pub text_of : Alphabet → List ℕ → List ℕ
text_of alphabet word = map (least_of alphabet) word

-- every symbol has a column, each column has a least symbol, and columns are numbered in the order
-- of these
pub record IsAlphabet (alphabet : Alphabet) : Type 0 where
  pub few : alphabet.width ≤ 95
  pub within : (symbol : ℕ) → IsTrue (is_symbol symbol) → column_of alphabet symbol < alphabet.width
  pub least : (symbol : ℕ) → IsTrue (is_symbol symbol)
      → least_of alphabet (column_of alphabet symbol) ≤ symbol
  pub symbols : (column : ℕ) → column < alphabet.width
      → IsTrue (is_symbol (least_of alphabet column))
  pub own : (column : ℕ) → column < alphabet.width
      → column_of alphabet (least_of alphabet column) ≡ column
  pub rising : (column later : ℕ) → column < later → later < alphabet.width
      → least_of alphabet column < least_of alphabet later

-- ---- which symbols have one column

abbrev pub SameColumn : Alphabet → ℕ → ℕ → Type 0
SameColumn alphabet a b = column_of alphabet a ≡ column_of alphabet b

-- the columns are the classes of a relation: two symbols have one column exactly if they are
-- related
abbrev pub HasClasses : Alphabet → (ℕ → ℕ → Type 0) → Type 0
HasClasses alphabet related = (a b : ℕ) → IsTrue (is_symbol a) → IsTrue (is_symbol b)
    → SameColumn alphabet a b ↔ related a b

-- the label of a symbol, in a list of one for each symbol, from the space on
abbrev pub label_of : List ℕ → ℕ → ℕ
label_of labels symbol = slice_index labels (symbol - 0x20)
