use Rattle.std.proofs.Common.{◌≡◌}
use Rattle.pol_names.specs.SubjectId.{user_id}
use Rattle.pol_report.specs.Sharing.{along, along_at, IsDifference}
use Rattle.pol_report.proofs.KnownFacts.{on_ok_so, on_ok_always}
use Rattle.pol_report.proofs.ChangeFacts.{is_listed, for_keepers, by_keepers}
use Rattle.pol_report.proofs.changing.list_searched.Goals as goal

pub returns-in-Some-clause-listed : goal.returns-in-Some-clause-listed
returns-in-Some-clause-listed c =
    let before = c.args.policies.now.before in
    let after = c.args.policies.now.after in
    let user = c.args.user.now in
    let was : along_at before c.keeper-before.result ≡ along before (user_id user) = rw (← c.old_policy.ensures, ← c.user-id.ensures) c.keeper-before.ensures.entries in
    let is : along_at after c.keeper-after.result ≡ along after (user_id user) = rw (← c.new_policy.ensures, ← c.user-id.ensures) c.keeper-after.ensures.entries in
    let found = for_keepers before after (user_id user) c.keeper-before.result c.keeper-after.result c.in-Some.difference.now was is (c.in-Some.ensures before after c.requires.known) in
    on_ok_so c.list_for.result (is_listed before after user c.args.changes.now c.list_for.new.changes c.in-Some.difference.now found) c.list_for.ensures

pub returns-clause-known : goal.returns-clause-known
returns-clause-known c =
    let before = c.args.policies.now.before in
    let after = c.args.policies.now.after in
    let user = c.args.user.now in
    let was : along_at before c.keeper-before.result ≡ along before (user_id user) = rw (← c.old_policy.ensures, ← c.user-id.ensures) c.keeper-before.ensures.entries in
    let is : along_at after c.keeper-after.result ≡ along after (user_id user) = rw (← c.new_policy.ensures, ← c.user-id.ensures) c.keeper-after.ensures.entries in
    let found : IsDifference (along before (user_id user)) (along after (user_id user)) c.in_ok-difference.difference = rw (← c.user-id.ensures) c.in_ok-difference.ensures in
    c.remember.ensures before after c.requires.known (by_keepers before after (user_id user) c.keeper-before.result c.keeper-after.result c.in_ok-difference.difference was is found)

pub returns-clause-listed : goal.returns-clause-listed
returns-clause-listed c =
    let before = c.args.policies.now.before in
    let after = c.args.policies.now.after in
    let user = c.args.user.now in
    let found : IsDifference (along before (user_id user)) (along after (user_id user)) c.in_ok-difference.difference = rw (← c.user-id.ensures) c.in_ok-difference.ensures in
    on_ok_always c.remember.result (is_listed before after user c.args.changes.now c.list_for-2.new.changes c.in_ok-difference.difference found c.in_ok-list_for.ensures)
