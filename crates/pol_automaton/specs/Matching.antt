-- The first entry whose residual holds the empty text.
use Rattle.std.specs.Prelude.{◌<◌, ℕ, List, [], Option, None, Some}
use Rattle.pol_pattern.specs.Flat.{Term}
use Rattle.pol_pattern.specs.Sets.{InTerm}
use Rattle.pol_automaton.specs.declared.entry_term.EntryTerm.{EntryTerm}
use Rattle.pol_automaton.specs.Scanning.{HasTerm}

-- a term of the entry's residual holds the empty text
abbrev pub Accepts : List Term → List EntryTerm → ℕ → Type 0
Accepts table items entry = (term : Term) × HasTerm table items entry term × InTerm term []

abbrev pub IsFirstAccepted : List Term → List EntryTerm → Option ℕ → Type 0
IsFirstAccepted table items None = (entry : ℕ) → ¬ (Accepts table items entry)
IsFirstAccepted table items (Some entry) =
    Accepts table items entry × ((k : ℕ) → k < entry → ¬ (Accepts table items k))
