use Rattle.std.proofs.Common.{take}
use Rattle.std.specs.List.{AllZip}
use Rattle.pol_automaton.specs.Matching.{IsFirstAccepted}
use Rattle.pol_automaton.proofs.entries.Entries.firsts.Given as goal

abbrev pub invariant-loop-state : goal.invariant-loop-state
invariant-loop-state l = AllZip (λ state first. IsFirstAccepted l.self.terms state.items first) (take l.state-index l.states) l.firsts.items
