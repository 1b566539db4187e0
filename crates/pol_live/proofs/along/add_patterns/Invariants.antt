use Rattle.std.proofs.Common.{◌≡◌, ◌++◌, ℕ, List, map, take}
use Rattle.pol_automaton.specs.Entries.{AreEntries}
use Rattle.pol_live.proofs.along.add_patterns.Given as goal

abbrev pub invariant-loop-rule : goal.invariant-loop-rule
invariant-loop-rule l = record {
  added : (known : List (List ℕ)) → AreEntries l.fn.entries known → AreEntries l.entries (known ++ map (λ rule. rule.pattern) (take l.rule-index l.subject.rules));
  same : l.rule-items ≡ l.subject.rules;
}
