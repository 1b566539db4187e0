-- A Decider as contracts see it: an automaton whose states are the residuals of entries, with the
-- first match of each. It doesn't hold its entries: a relation says of which it is the Decider.
use Rattle.std.specs.Prelude.{◌≡◌, ◌↔◌, ◌<◌, ℕ, Bool, false, IsTrue, List, length, Option, None}
use Rattle.std.specs.Prelude.{Some, slice_index_or, Any}
use Rattle.basics.specs.Symbol.{is_text}
use Rattle.basics.specs.TextOrder.{IsLeast}
use Rattle.pol_scan.specs.Alphabet.{Alphabet, IsAlphabet, HasClasses, word_of}
use Rattle.pol_scan.specs.Words.{IsWord, IsWordThat}
use Rattle.pol_scan.specs.Table.{Table, count, walk}
use Rattle.pol_scan.specs.Table.{word_of as found_along}
use Rattle.pol_residual.specs.Residuals.{SameResiduals, IsResidualCount, IsSure}
use Rattle.pol_automaton.specs.Decision.{IsFirstMatch}
use Rattle.pol_automaton.specs.Alike.{AreAlike}

-- how texts are read; the states; of each state the first match, and whether an entry is sure; how
-- many entries there are
pub record Automaton : Type 0 where
  pub alphabet : Alphabet
  pub table : Table
  pub firsts : List (Option ℕ)
  pub sures : List Bool
  pub entries : ℕ

-- the state to which a text leads, and the first match of a state
abbrev pub state_of : Automaton → List ℕ → ℕ
state_of automaton text = walk automaton.table (word_of automaton.alphabet text)

abbrev pub first_of : Automaton → ℕ → Option ℕ
first_of automaton state = slice_index_or automaton.firsts state None

-- whether an entry is sure by the texts that lead to a state
abbrev pub is_sure : Automaton → ℕ → Bool
is_sure automaton state = slice_index_or automaton.sures state false

-- its parts fit each other
pub record IsWhole (automaton : Automaton) : Type 0 where
  pub letters : IsAlphabet automaton.alphabet
  pub columns : automaton.table.width ≡ automaton.alphabet.width
  pub firsts : length automaton.firsts ≡ count automaton.table
  pub sures : length automaton.sures ≡ count automaton.table
  pub within : (word : List ℕ) → IsWord automaton.table.width word
      → walk automaton.table word < count automaton.table
  pub words : (state : ℕ) → state < count automaton.table
      → IsWord automaton.table.width (found_along automaton.table state)
  pub below : (state i : ℕ) → state < count automaton.table → first_of automaton state ≡ Some i
      → i < automaton.entries

-- the automaton is the Decider of these entries
pub record IsDecider (automaton : Automaton) (entries : List (List ℕ)) : Type 0 where
  pub many : automaton.entries ≡ length entries
  -- its columns are the classes of alike symbols
  pub classes : HasClasses automaton.alphabet (AreAlike entries)
  -- its states are the residuals: each is reached, and two texts lead to one state exactly if they
  -- have the same
  pub tells : (text other : List ℕ) → IsTrue (is_text text) → IsTrue (is_text other)
      → (state_of automaton text ≡ state_of automaton other) ↔ SameResiduals entries text other
  pub index : IsResidualCount entries (count automaton.table)
  -- a state knows the first match of the texts that lead there
  pub firsts : (text : List ℕ) → IsTrue (is_text text)
      → IsFirstMatch entries text (first_of automaton (state_of automaton text))
  -- and whether one of the entries is sure by them
  pub sures : (text : List ℕ) → IsTrue (is_text text)
      → IsTrue (is_sure automaton (state_of automaton text))
      ↔ Any (λ source. IsSure source text) entries
  -- states are numbered in the order of the least words that lead there: so the first state that
  -- passes a test has the least word of those that lead to such a state
  pub leasts : (test : ℕ → Bool) (state : ℕ) → state < count automaton.table → IsTrue (test state)
      → ((k : ℕ) → k < state → ¬ (IsTrue (test k)))
      → IsLeast (IsWordThat automaton.table.width (λ word. IsTrue (test
      (walk automaton.table word))))
      (found_along automaton.table state)
