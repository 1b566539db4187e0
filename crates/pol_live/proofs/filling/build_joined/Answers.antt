use Rattle.std.proofs.Common.{◌++◌, sym, subst}
use Rattle.pol_automaton.specs.Automaton.{Automaton, IsDecider}
use Rattle.pol_meaning.specs.Sizes.{most_residuals}
use Rattle.pol_live.proofs.filling.build_joined.Goals as goal

pub returns-clause-right : goal.returns-clause-right
returns-clause-right c first rest own above =
    let right = c.in_ok-decider.ensures.decider first rest own above in (
      subst (λ (d : Automaton). IsDecider d (first ++ rest)) (sym c.in_ok-whole.ensures) right,
      λ more. c.in_ok-decider.ensures.excludes (first ++ rest) _ most_residuals right.index c.in_ok-decider.ensures.few more,
    )
