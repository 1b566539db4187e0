use Rattle.std.proofs.Common.{[], Err, ap, sym, subst, ◌∙◌}
use Rattle.std.proofs.lemmas.Result.{err_from_is_err_and}
use Rattle.pol_automaton.specs.Automaton.{Automaton, IsDecider}
use Rattle.pol_live.specs.Kept.{own_patterns}
use Rattle.pol_meaning.specs.Sizes.{most_residuals}
use Rattle.pol_live.proofs.filling.build_own.Goals as goal

pub returns-in_err-decider-clause-too_many : goal.returns-in_err-decider-clause-too_many
returns-in_err-decider-clause-too_many c is =
    let p = err_from_is_err_and c.from_residual-in_err-decider.result c.from_residual-in_err-decider.ensures.1 in
    c.in_err-decider.ensures.too_many _ (c.in_ok-add_patterns.ensures [] c.new-entries.ensures) (ap Err (sym p.2) ∙ sym p.1 ∙ is)

pub returns-clause-right : goal.returns-clause-right
returns-clause-right c =
    let entries = c.in_ok-add_patterns.ensures [] c.new-entries.ensures in
    let right = c.in_ok-decider.ensures.decider _ entries in (
      subst (λ (d : Automaton). IsDecider d (own_patterns c.args.subject.now)) (sym c.in_ok-own.ensures) right,
      λ more. c.in_ok-decider.ensures.excludes _ _ most_residuals right.index c.in_ok-decider.ensures.few more,
    )
