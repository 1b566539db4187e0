use Rattle.std.proofs.Common.{◌≡◌, ◌++◌, map, take}
use Rattle.pol_automaton.specs.Scanning.{item_of}
use Rattle.pol_automaton.proofs.stepping.push_each.Given as goal

abbrev pub invariant-loop-term : goal.invariant-loop-term
invariant-loop-term l = l.items.items ≡ l.fn.items.items ++ map (item_of l.entry) (take l.term-index l.numbers)
