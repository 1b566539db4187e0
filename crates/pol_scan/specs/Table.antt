-- The table of a deterministic automaton without accepting states. State 0 is the first.
use Rattle.std.specs.Prelude.{◌≡◌, ◌↔◌, ◌<◌, ◌≤◌, ◌+◌, ◌*◌, ℕ, Bool, IsTrue, List, length, fold}
use Rattle.std.specs.Prelude.{slice_index, slice_index_or, false, All, AllPairs}
use Rattle.basics.specs.TextOrder.{IsBefore, IsLeast}
use Rattle.pol_scan.specs.Words.{IsWord, IsWordThat, word_at}
use Rattle.pol_scan.specs.Congruence.{Congruence}

-- how many columns there are; the states' rows of cells, one after another; a word for each state
pub record Table : Type 0 where
  pub width : ℕ
  pub cells : List ℕ
  pub words : List (List ℕ)

-- how many states there are
abbrev pub count : Table → ℕ
count table = length table.words

-- the state to which a state and a column lead
abbrev pub next : Table → ℕ → ℕ → ℕ
next table state column = slice_index table.cells (state * table.width + column)

-- the state to which a word leads
abbrev pub walk : Table → List ℕ → ℕ
walk table word = fold (next table) 0 word

-- the word that is kept for a state
abbrev pub word_of : Table → ℕ → List ℕ
word_of table state = word_at table.words state

-- there is a first state and at most so many, and each state has a whole row, of states
pub record IsWhole (most : ℕ) (table : Table) : Type 0 where
  pub first : 0 < count table
  pub few : count table ≤ most
  pub size : length table.cells ≡ count table * table.width
  pub within : All (λ cell. cell < count table) table.cells

-- no column leads out of the state
abbrev pub IsTrap : Table → ℕ → Type 0
IsTrap table state = (column : ℕ) → column < table.width → next table state column ≡ state

-- a mark for each state: whether no column leads out of it
pub record MarkTraps (table : Table) (marks : List Bool) : Type 0 where
  pub each : length marks ≡ count table
  pub right : (state : ℕ) → state < count table
      → IsTrue (slice_index_or marks state false) ↔ IsTrap table state

-- the table is the automaton of a right congruence: its states are the classes
pub record IsAutomatonOf (congruence : Congruence) (table : Table) : Type 0 where
  pub columns : table.width ≡ congruence.width
  pub within : (word : List ℕ) → IsWord congruence.width word → walk table word < count table
  pub tells : (u v : List ℕ) → IsWord congruence.width u → IsWord congruence.width v
      → (walk table u ≡ walk table v) ↔ congruence.same u v
  -- each state's word is the least that leads there, and states are numbered in the order of their
  -- words
  pub least : (state : ℕ) → state < count table
      → IsLeast (IsWordThat congruence.width (λ word. walk table word ≡ state))
      (word_of table state)
  pub rising : AllPairs IsBefore table.words
  -- so the first state that passes a test has the least word of those that lead to such a state
  pub firsts : (test : ℕ → Bool) (state : ℕ) → state < count table → IsTrue (test state)
      → ((k : ℕ) → k < state → ¬ (IsTrue (test k)))
      → IsLeast (IsWordThat congruence.width (λ word. IsTrue (test (walk table word))))
      (word_of table state)
