use Rattle.std.proofs.Common.{take, []}
use Rattle.pol_pattern.specs.Sets.{InTerm}
use Rattle.pol_automaton.proofs.Matched.{HasNone}
use Rattle.pol_automaton.proofs.matching.first_accepted.Given as goal

abbrev pub invariant-loop-item : goal.invariant-loop-item
invariant-loop-item l = HasNone (λ term. InTerm term []) l.terms (take l.item-index l.items)
