use Rattle.pol_automaton.specs.Reaching.{NoState}
use Rattle.pol_automaton.proofs.decider.Decider.first_state.Given as goal

abbrev pub invariant-loop-state : goal.invariant-loop-state
invariant-loop-state l = NoState l.self l.entry l.state
