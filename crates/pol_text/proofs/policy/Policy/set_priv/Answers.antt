use Rattle.std.proofs.Common.{refl}
use Rattle.pol_text.specs.Change.{with_priv}
use Rattle.pol_text.proofs.Placed.{lent, not_missing, changed_now, fields_now, right_now}
use Rattle.pol_text.proofs.policy.Policy.set_priv.Goals as goal

pub returns-in_default-clause-changed : goal.returns-in_default-clause-changed
returns-in_default-clause-changed c =
    not_missing c.args.id.now c.args.self.now c.self.inside.subjects c.self.view_is c.in_default.ensures.found c.requires.there

pub invariant_of-self-2 : goal.invariant_of-self-2
invariant_of-self-2 c =
    let h = lent c.args.id.now c.args.self.now c.self.inside.subjects c.self.inside.places.keys c.in-Some.subject.now c.self.view_is c.self.invariant c.in-Some.ensures.found in
    let r = right_now h in
    fields_now h (with_priv c.args.level) (λ t. refl) (λ t. refl)
    (record { name = r.name; parent = r.parent; login = r.login; enable = r.enable; secrets = r.secrets; level = c.requires.small; services = r.services; few = r.few; rules = r.rules })

pub returns-clause-changed : goal.returns-clause-changed
returns-clause-changed c =
    let h = lent c.args.id.now c.args.self.now c.self.inside.subjects c.self.inside.places.keys c.in-Some.subject.now c.self.view_is c.self.invariant c.in-Some.ensures.found in
    changed_now h (with_priv c.args.level)

pub returns-clause-well_formed : goal.returns-clause-well_formed
returns-clause-well_formed c = (invariant_of-self-2 c).0
