use Rattle.std.proofs.Common.{◌≡◌, ◌-◌, ◌++◌, ℕ, List}
use Rattle.pol_automaton.specs.Entries.{AreEntries}
use Rattle.pol_text.specs.Policy.{chain_within, entries_along}
use Rattle.pol_meaning.specs.Along.{patterns_of, patterns_along}
use Rattle.pol_live.proofs.along.patterns_from.Given as goal

-- what was found, and what is left, are all
abbrev pub invariant-chain : goal.invariant-chain
invariant-chain l = (known : List (List ℕ)) × AreEntries l.found known
    × (known ++ patterns_of (entries_along (chain_within (8 - l.counter) l.policy l.present)) ≡ patterns_along l.policy l.fn.subject)
