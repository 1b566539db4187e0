use Rattle.std.proofs.Common.{◌≡◌, take}
use Rattle.std.specs.List.{AllZip}
use Rattle.pol_automaton.specs.Joining.{joined_first}
use Rattle.pol_automaton.proofs.joining.firsts_of_pairs.Given as goal

abbrev pub invariant-loop-pair : goal.invariant-loop-pair
invariant-loop-pair l = AllZip (λ pair found. found ≡ joined_first l.first l.rest pair.0 pair.1) (take l.pair-index l.pairs) l.firsts.items
