use Rattle.std.proofs.Common.{◌≡◌, ◌∙◌, Some, sym}
use Rattle.std.specs.Option.{option_map}
use Rattle.pol_names.specs.declared.subject_id.Kind.TheVariants.{Group}
use Rattle.pol_text.specs.Policy.{id_of, find_subject}
use Rattle.pol_update.specs.Planning.{with_secrets}
use Rattle.pol_update.proofs.Turns.{not_turned}
use Rattle.pol_update.proofs.Takes.{group_secrets, same_kind_is, secrets_turned, is_user}
use Rattle.pol_update.proofs.plan.Plan.put_secrets.Goals as goal

pub returns-then-is_group : goal.returns-then-is_group
returns-then-is_group c =
    let id = id_of c.args.subject.now in
    let p = c.args.self.now.made in
    let found : find_subject id p ≡ Some c.in-Some.present.now = sym (rw (c.in-Some.is, c.id.ensures) at c.find.ensures.found) in
    not_turned id (option_map (with_secrets c.args.subject.now) (find_subject id p)) c.args.self.now
    (group_secrets p c.args.subject.now c.in-Some.present.now c.find.ensures.well_formed c.requires found (same_kind_is c.in-Some.present.now.kind Group (sym c.is_group.ensures ∙ c.if-is_group.true)))

pub returns : goal.returns
returns c =
    let id = id_of c.args.subject.now in
    let p = c.args.self.now.made in
    let found : find_subject id p ≡ Some c.in-Some.present.now = sym (rw (c.in-Some.is, c.id.ensures) at c.find.ensures.found) in
    secrets_turned c.put_secret-2.result c.args.subject.now c.args.self.now c.put_secret.new.self c.put_secret-2.new.self (is_user p c.args.subject.now c.in-Some.present.now found (sym c.is_group.ensures ∙ c.if-is_group.false))
    c.in_ok-put_secret.ensures c.put_secret-2.ensures
