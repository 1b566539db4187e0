-- How the meter and the automata that are there rise together.
use Rattle.std.specs.Prelude.{◌≡◌, ◌≤◌, ◌+◌, ℕ, min, List, [], ◌∷◌, Bool, true}
use Rattle.std.specs.Prelude.{Option, Some, None, if◌then◌else◌}
use Rattle.pol_scan.specs.Table.{count}
use Rattle.pol_automaton.specs.Automaton.{Automaton}
use Rattle.pol_text.specs.declared.subject.Subject.{Subject}
use Rattle.pol_live.specs.declared.parts.Parts.{Parts}
use Rattle.pol_live.specs.Rise.{most, is_joined}

-- the meter rises by so many states, and doesn't fall
abbrev pub Raised : ℕ → ℕ → ℕ → Type 0
Raised before after states = before ≤ most → after ≡ min (before + states) most

abbrev pub NotLowered : ℕ → ℕ → Type 0
NotLowered before after = before ≤ most → (before ≤ after) × (after ≤ most)

-- the states of the automata that some of the subjects have
abbrev pub weight : (Subject → Bool) → List Subject → List (Option Automaton) → ℕ
weight counts [] slots = 0
weight counts (subject ∷ rest) [] = 0
weight counts (subject ∷ rest) (None ∷ slots) = weight counts rest slots
weight counts (subject ∷ rest) (Some decider ∷ slots) =
    (if counts subject then count decider.table else 0) + weight counts rest slots

-- the states that were made for these automata
abbrev pub states_of : List Subject → Parts → ℕ
states_of policy parts = weight (λ _. true) policy parts.owns + weight is_joined policy parts.wholes

-- the meter rises by the states that are more
abbrev pub Counts : ℕ → ℕ → ℕ → ℕ → Type 0
Counts before after old new = (states : ℕ) × (new ≡ old + states) × Raised before after states
