use Rattle.std.proofs.Common.{rules}
use Rattle.std.proofs.lemmas.Fn.{always_returns_same}
use Rattle.tac_desk.specs.Reporting.{denies}
use Rattle.tac_desks.proofs.Settling.{settled_meaning, settled_marks}
use Rattle.tac_desks.proofs.tallies.remark.Goals as goal

pub returns-clause-marks : goal.returns-clause-marks
returns-clause-marks c =
    let policy = c.args.policy.now in
    settled_marks policy c.args.book.now c.settle.new.self c.in_ok-recount.recount c.settle.ensures
    (c.in_ok-recount.ensures.settles (denies policy) (always_returns_same _ _ _ (λ a r f' k. search rules)))

pub returns-clause-kept : goal.returns-clause-kept
returns-clause-kept c =
    let policy = c.args.policy.now in
    settled_meaning policy c.args.book.now c.settle.new.self c.in_ok-recount.recount c.settle.ensures
    (c.in_ok-recount.ensures.settles (denies policy) (always_returns_same _ _ _ (λ a r f' k. search rules))) policy
