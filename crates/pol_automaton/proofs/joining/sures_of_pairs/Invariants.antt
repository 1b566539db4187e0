use Rattle.std.proofs.Common.{◌≡◌, take}
use Rattle.std.specs.List.{AllZip}
use Rattle.pol_automaton.specs.Joining.{joined_sure}
use Rattle.pol_automaton.proofs.joining.sures_of_pairs.Given as goal

abbrev pub invariant-loop-pair : goal.invariant-loop-pair
invariant-loop-pair l = AllZip (λ pair sure. sure ≡ joined_sure l.first l.rest pair.0 pair.1) (take l.pair-index l.pairs) l.sures.items
