-- The first state of which an entry is the first match.
use Rattle.std.specs.Prelude.{◌≡◌, ◌≢◌, ◌<◌, ℕ, Some}
use Rattle.pol_scan.specs.Table.{count}
use Rattle.pol_automaton.specs.Automaton.{Automaton, first_of}

-- none of the first so many states has the entry
abbrev pub NoState : Automaton → ℕ → ℕ → Type 0
NoState automaton entry bound = (k : ℕ) → k < bound → first_of automaton k ≢ Some entry

pub record IsFirstState (automaton : Automaton) (entry state : ℕ) : Type 0 where
  pub within : state < count automaton.table
  pub has : first_of automaton state ≡ Some entry
  pub none : NoState automaton entry state
