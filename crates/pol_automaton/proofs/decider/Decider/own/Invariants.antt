use Rattle.std.proofs.Common.{take}
use Rattle.pol_automaton.specs.Entries.{AreEntries}
use Rattle.pol_automaton.proofs.decider.Decider.own.Given as goal

abbrev pub invariant-loop-pattern : goal.invariant-loop-pattern
invariant-loop-pattern l = AreEntries l.entries (take l.pattern-index l.patterns)
