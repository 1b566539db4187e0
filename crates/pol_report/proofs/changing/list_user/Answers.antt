use Rattle.std.proofs.Common.{◌≡◌}
use Rattle.pol_names.specs.SubjectId.{user_id}
use Rattle.pol_report.specs.Sharing.{along}
use Rattle.pol_report.proofs.ChangeFacts.{not_listed}
use Rattle.pol_report.proofs.changing.list_user.Goals as goal

pub returns-then-skips-clause-listed : goal.returns-then-skips-clause-listed
returns-then-skips-clause-listed c =
    let before = c.args.policies.now.before in
    let after = c.args.policies.now.after in
    let user = c.args.user.now in
    let same : along before (user_id user) ≡ along after (user_id user) = rw (← c.user.ensures) (c.skips.ensures c.if-skips.true) in
    not_listed before after user c.args.changes.now same
