use Rattle.std.proofs.Common.{ℕ, List, ◌∙◌}
use Rattle.pol_automaton.specs.Automaton.{IsDecider}
use Rattle.pol_automaton.specs.Alike.{IsClassCount}
use Rattle.pol_automaton.proofs.Counting.{one_class_count}
use Rattle.pol_automaton.proofs.Columns.{class_count}
use Rattle.pol_automaton.proofs.decider.Decider.columns.Goals as goal
use Rattle.pol_automaton.proofs.decider.Decider.columns.Goals.{After-width}

counted : (c : After-width) (entries : List (List ℕ)) → IsDecider c.args.self.now entries → IsClassCount entries c.width.result
counted c =
    let i = c.self.inside in
    rw (← c.self.view_is) (λ entries d. rw (c.width.ensures ∙ c.self.invariant.columns) (class_count i.alphabet c.self.invariant.letters entries d.classes))

pub returns-clause-classes : goal.returns-clause-classes
returns-clause-classes c = counted c

pub returns-clause-only : goal.returns-clause-only
returns-clause-only c = λ entries count d has. one_class_count entries c.width.result count (counted c entries d) has
