use Rattle.std.proofs.Common.{ℕ, List}
use Rattle.pol_residual.specs.Residuals.{IsResidualCount}
use Rattle.pol_automaton.specs.Automaton.{IsDecider}
use Rattle.pol_automaton.proofs.Counting.{one_count}
use Rattle.pol_automaton.proofs.SameMatch.{same_match}
use Rattle.pol_automaton.proofs.decider.Decider.states.Goals as goal
use Rattle.pol_automaton.proofs.decider.Decider.states.Goals.{After-states}

counted : (c : After-states) (entries : List (List ℕ)) → IsDecider c.args.self.now entries → IsResidualCount entries c.states.result
counted c = rw (← c.self.view_is) (λ entries d. rw c.states.ensures.many d.index)

pub returns-clause-only : goal.returns-clause-only
returns-clause-only c = λ entries count d has. one_count entries c.states.result count (counted c entries d) has

pub returns-clause-law : goal.returns-clause-law
returns-clause-law c = same_match
