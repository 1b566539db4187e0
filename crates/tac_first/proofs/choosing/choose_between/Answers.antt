use Rattle.std.proofs.Common.{Some, sym, ◌∙◌}
use Rattle.tac_first.proofs.FitFacts.{stays_of}
use Rattle.tac_first.proofs.choosing.choose_between.Goals as goal

-- no key is fitted better
pub returns-then-present_fit-eq-IN_RANGE-clause-exact : goal.returns-then-present_fit-eq-IN_RANGE-clause-exact
returns-then-present_fit-eq-IN_RANGE-clause-exact c =
    sym (stays_of c.args.present.now (Some c.args.old.now) c.args.frame.now
    (sym c.in_ok-present_fit.ensures.exact ∙ c.if-present_fit-eq-IN_RANGE.true))
