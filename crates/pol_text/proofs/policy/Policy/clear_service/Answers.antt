use Rattle.std.proofs.Common.{not, refl}
use Rattle.pol_names.specs.Service.{is_cleared}
use Rattle.pol_text.specs.Change.{without_service}
use Rattle.pol_text.proofs.Placed.{lent, not_missing, changed_to, fields_to, right_now}
use Rattle.pol_text.proofs.ServiceLines.{lines_filter}
use Rattle.pol_text.proofs.policy.Policy.clear_service.Goals as goal

pub returns-in_default-clause-changed : goal.returns-in_default-clause-changed
returns-in_default-clause-changed c =
    not_missing c.args.id.now c.args.self.now c.self.inside.subjects c.self.view_is c.in_default.ensures.found c.requires.there

pub invariant_of-self-2 : goal.invariant_of-self-2
invariant_of-self-2 c =
    let h = lent c.args.id.now c.args.self.now c.self.inside.subjects c.self.inside.places.keys c.in-Some.subject.now c.self.view_is c.self.invariant c.in-Some.ensures.found in
    let r = right_now h in
    fields_to h (without_service c.args.service.now c.args.attribute.now) _ c.clear_service.ensures (λ t. refl) (λ t. refl)
    (record { name = r.name; parent = r.parent; login = r.login; enable = r.enable; secrets = r.secrets; level = r.level; services = lines_filter (λ line. not (is_cleared c.args.service.now c.args.attribute.now line)) c.in-Some.subject.now.services r.services; few = r.few; rules = r.rules })

pub returns-clause-changed : goal.returns-clause-changed
returns-clause-changed c =
    let h = lent c.args.id.now c.args.self.now c.self.inside.subjects c.self.inside.places.keys c.in-Some.subject.now c.self.view_is c.self.invariant c.in-Some.ensures.found in
    changed_to h (without_service c.args.service.now c.args.attribute.now) _ c.clear_service.ensures

pub returns-clause-well_formed : goal.returns-clause-well_formed
returns-clause-well_formed c = (invariant_of-self-2 c).0
