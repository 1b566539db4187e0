use Rattle.std.proofs.Common.{length, nat_lt, refl, ap, ltb-true}
use Rattle.pol_text.specs.declared.subject.Subject.{Subject}
use Rattle.pol_text.specs.Policy.{is_right_rule}
use Rattle.pol_text.specs.Change.{without_rule_at}
use Rattle.pol_text.proofs.Placed.{lent, not_missing, changed_to, fields_to, right_now, test_now, test_there}
use Rattle.pol_text.proofs.Rules.{all_remove, few_removed}
use Rattle.pol_text.proofs.policy.Policy.remove_rule.Goals as goal

pub returns-in_default-clause-changed : goal.returns-in_default-clause-changed
returns-in_default-clause-changed c =
    not_missing c.args.id.now c.args.self.now c.self.inside.subjects c.self.view_is c.in_default.ensures.found (test_there _ (λ (s : Subject). nat_lt c.args.at (length s.rules)) c.requires)

pub remove-requires : goal.remove-requires
remove-requires c =
    let h = lent c.args.id.now c.args.self.now c.self.inside.subjects c.self.inside.places.keys c.in-Some.subject.now c.self.view_is c.self.invariant c.in-Some.ensures.found in
    ltb-true c.args.at (length c.in-Some.subject.now.rules) (test_now h (λ (s : Subject). nat_lt c.args.at (length s.rules)) c.requires)

pub invariant_of-self-2 : goal.invariant_of-self-2
invariant_of-self-2 c =
    let h = lent c.args.id.now c.args.self.now c.self.inside.subjects c.self.inside.places.keys c.in-Some.subject.now c.self.view_is c.self.invariant c.in-Some.ensures.found in
    let r = right_now h in
    let lt = ltb-true c.args.at (length c.in-Some.subject.now.rules) (test_now h (λ (s : Subject). nat_lt c.args.at (length s.rules)) c.requires) in
    fields_to h (without_rule_at c.args.at) _ (ap (λ rules. record c.in-Some.subject.now { rules = rules }) c.remove.ensures.rest) (λ t. refl) (λ t. refl)
    (record { name = r.name; parent = r.parent; login = r.login; enable = r.enable; secrets = r.secrets; level = r.level; services = r.services; few = few_removed c.in-Some.subject.now.rules c.args.at lt r.few; rules = all_remove is_right_rule c.in-Some.subject.now.rules c.args.at r.rules })

pub returns-clause-changed : goal.returns-clause-changed
returns-clause-changed c =
    let h = lent c.args.id.now c.args.self.now c.self.inside.subjects c.self.inside.places.keys c.in-Some.subject.now c.self.view_is c.self.invariant c.in-Some.ensures.found in
    changed_to h (without_rule_at c.args.at) _ (ap (λ rules. record c.in-Some.subject.now { rules = rules }) c.remove.ensures.rest)

pub returns-clause-well_formed : goal.returns-clause-well_formed
returns-clause-well_formed c = (invariant_of-self-2 c).0
