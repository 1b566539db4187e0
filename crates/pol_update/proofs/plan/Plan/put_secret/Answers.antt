use Rattle.std.proofs.Common.{◌≡◌, ◌∙◌, Some, sym}
use Rattle.pol_names.specs.SubjectId.{user_id}
use Rattle.pol_text.specs.Policy.{find_subject}
use Rattle.pol_update.proofs.Takes.{secret_turned, secret_differs}
use Rattle.pol_update.proofs.plan.Plan.put_secret.Goals as goal

pub returns : goal.returns
returns c =
    let id = user_id c.args.user.now in
    let p = c.args.self.now.made in
    let found : find_subject id p ≡ Some c.in-Some.present.now = sym (rw (c.in-Some.is, c.user.ensures) at c.find.ensures.found) in
    let differs = secret_differs c.secret_of.result.now c.args.secret.now c.eq.result c.eq.ensures c.if-eq.false in
    secret_turned c.add.result c.args.credential c.args.user.now c.args.secret.now c.in-Some.present.now c.args.self.now c.add.new.self c.find.ensures.well_formed found (λ same. differs (c.secret_of.ensures ∙ same)) c.requires
    (rw c.in_ok-edit.ensures at c.add.ensures.added)
