use Rattle.std.proofs.Common.{rules, ap, ◌∙◌}
use Rattle.std.proofs.lemmas.Fn.{always_returns_same}
use Rattle.tac_tally.specs.Recount.{remarked}
use Rattle.tac_desk.specs.Reporting.{denies}
use Rattle.tac_desks.proofs.Unchanged.{marks_stay_right}
use Rattle.tac_desks.proofs.recounting.recount_changed.Goals as goal

pub returns-clause-marks : goal.returns-clause-marks
returns-clause-marks c =
    let prepared = c.args.prepared.now in
    let entries = c.args.book.now.entries in
    let users = c.as_slice.ensures ∙ c.in_ok-users.ensures in
    c.in_ok-recount.ensures.settles (denies prepared.after) (always_returns_same _ _ _ (λ a r f' k. search rules))
    ∙ ap (λ names. remarked (denies prepared.after) names entries) users
    ∙ marks_stay_right prepared.before prepared.after c.args.changes.now c.requires.changes entries c.requires.marks
