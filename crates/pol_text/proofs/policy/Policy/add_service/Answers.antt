use Rattle.std.proofs.Common.{◌&&◌, length, not, nat_lt, refl, ltb-true}
use Rattle.std.proofs.lemmas.Bool.{and_parts, not-true}
use Rattle.pol_names.specs.Service.{any_clash}
use Rattle.pol_text.specs.declared.subject.Subject.{Subject}
use Rattle.pol_text.specs.Policy.{max_services}
use Rattle.pol_text.specs.Change.{with_line_last}
use Rattle.pol_text.proofs.Placed.{lent, not_missing, changed_to, fields_to, unchanged_to, on_err, fields_unchanged, right_now, test_now, test_there}
use Rattle.pol_text.proofs.ServiceLines.{lines_push}
use Rattle.pol_text.proofs.policy.Policy.add_service.Goals as goal

pub returns-in_default-clause-ok : goal.returns-in_default-clause-ok
returns-in_default-clause-ok c =
    not_missing c.args.id.now c.args.self.now c.self.inside.subjects c.self.view_is c.in_default.ensures.found (test_there _ (λ (s : Subject). not (any_clash s.services c.args.line) && nat_lt (length s.services) max_services) c.requires.room)

pub invariant_of-self-in_err-push_service : goal.invariant_of-self-in_err-push_service
invariant_of-self-in_err-push_service c =
    let h = lent c.args.id.now c.args.self.now c.self.inside.subjects c.self.inside.places.keys c.in-Some.subject.now c.self.view_is c.self.invariant c.in-Some.ensures.found in
    fields_unchanged h _ c.in_err-push_service.ensures.err

pub returns-in_err-push_service-clause-err : goal.returns-in_err-push_service-clause-err
returns-in_err-push_service-clause-err c =
    let h = lent c.args.id.now c.args.self.now c.self.inside.subjects c.self.inside.places.keys c.in-Some.subject.now c.self.view_is c.self.invariant c.in-Some.ensures.found in
    on_err c.from_residual.result (unchanged_to h _ c.in_err-push_service.ensures.err)

pub invariant_of-self-2 : goal.invariant_of-self-2
invariant_of-self-2 c =
    let h = lent c.args.id.now c.args.self.now c.self.inside.subjects c.self.inside.places.keys c.in-Some.subject.now c.self.view_is c.self.invariant c.in-Some.ensures.found in
    let both = and_parts (not (any_clash c.in-Some.subject.now.services c.args.line)) (nat_lt (length c.in-Some.subject.now.services) max_services) (test_now h (λ (s : Subject). not (any_clash s.services c.args.line) && nat_lt (length s.services) max_services) c.requires.room) in
    let r = right_now h in
    fields_to h (with_line_last c.args.line) _ c.in_ok-push_service.ensures.ok (λ t. refl) (λ t. refl)
    (record { name = r.name; parent = r.parent; login = r.login; enable = r.enable; secrets = r.secrets; level = r.level; services = lines_push c.in-Some.subject.now.services c.args.line r.services c.requires.right (not-true (any_clash c.in-Some.subject.now.services c.args.line) both.0) (ltb-true (length c.in-Some.subject.now.services) max_services both.1); few = r.few; rules = r.rules })

pub returns-clause-ok : goal.returns-clause-ok
returns-clause-ok c =
    let h = lent c.args.id.now c.args.self.now c.self.inside.subjects c.self.inside.places.keys c.in-Some.subject.now c.self.view_is c.self.invariant c.in-Some.ensures.found in
    changed_to h (with_line_last c.args.line) _ c.in_ok-push_service.ensures.ok

pub returns-clause-well_formed : goal.returns-clause-well_formed
returns-clause-well_formed c = (invariant_of-self-2 c).0

pub returns-in_err-push_service-clause-well_formed : goal.returns-in_err-push_service-clause-well_formed
returns-in_err-push_service-clause-well_formed c = (invariant_of-self-in_err-push_service c).0
