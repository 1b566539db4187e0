use Rattle.std.proofs.Common.{◌&&◌, length, nat_lt, refl, ap, ltb-true}
use Rattle.std.proofs.lemmas.Bool.{and_parts}
use Rattle.pol_text.specs.declared.subject.Subject.{Subject}
use Rattle.pol_text.specs.Policy.{is_right_rule}
use Rattle.pol_text.specs.Change.{with_rule_moved}
use Rattle.pol_text.proofs.Placed.{lent, not_missing, changed_to, fields_to, right_now, test_now, test_there}
use Rattle.pol_text.proofs.Rules.{all_moved, few_moved}
use Rattle.pol_text.proofs.policy.Policy.move_rule.Goals as goal

pub returns-in_default-clause-changed : goal.returns-in_default-clause-changed
returns-in_default-clause-changed c =
    not_missing c.args.id.now c.args.self.now c.self.inside.subjects c.self.view_is c.in_default.ensures.found (test_there _ (λ (s : Subject). nat_lt c.args.from (length s.rules) && nat_lt c.args.to (length s.rules)) c.requires)

pub move_item-requires-clause-from_in_bounds : goal.move_item-requires-clause-from_in_bounds
move_item-requires-clause-from_in_bounds c =
    let h = lent c.args.id.now c.args.self.now c.self.inside.subjects c.self.inside.places.keys c.in-Some.subject.now c.self.view_is c.self.invariant c.in-Some.ensures.found in
    let both = and_parts (nat_lt c.args.from (length c.in-Some.subject.now.rules)) (nat_lt c.args.to (length c.in-Some.subject.now.rules)) (test_now h (λ (s : Subject). nat_lt c.args.from (length s.rules) && nat_lt c.args.to (length s.rules)) c.requires) in
    ltb-true c.args.from (length c.in-Some.subject.now.rules) both.0

pub move_item-requires-clause-to_in_bounds : goal.move_item-requires-clause-to_in_bounds
move_item-requires-clause-to_in_bounds c =
    let h = lent c.args.id.now c.args.self.now c.self.inside.subjects c.self.inside.places.keys c.in-Some.subject.now c.self.view_is c.self.invariant c.in-Some.ensures.found in
    let both = and_parts (nat_lt c.args.from (length c.in-Some.subject.now.rules)) (nat_lt c.args.to (length c.in-Some.subject.now.rules)) (test_now h (λ (s : Subject). nat_lt c.args.from (length s.rules) && nat_lt c.args.to (length s.rules)) c.requires) in
    ltb-true c.args.to (length c.in-Some.subject.now.rules) both.1

pub invariant_of-self-2 : goal.invariant_of-self-2
invariant_of-self-2 c =
    let h = lent c.args.id.now c.args.self.now c.self.inside.subjects c.self.inside.places.keys c.in-Some.subject.now c.self.view_is c.self.invariant c.in-Some.ensures.found in
    let both = and_parts (nat_lt c.args.from (length c.in-Some.subject.now.rules)) (nat_lt c.args.to (length c.in-Some.subject.now.rules)) (test_now h (λ (s : Subject). nat_lt c.args.from (length s.rules) && nat_lt c.args.to (length s.rules)) c.requires) in
    let r = right_now h in
    fields_to h (with_rule_moved c.args.from c.args.to) _ (ap (λ rules. record c.in-Some.subject.now { rules = rules }) c.move_item.ensures) (λ t. refl) (λ t. refl)
    (record { name = r.name; parent = r.parent; login = r.login; enable = r.enable; secrets = r.secrets; level = r.level; services = r.services; few = few_moved c.in-Some.subject.now.rules c.args.from c.args.to (ltb-true c.args.to (length c.in-Some.subject.now.rules) both.1) r.few; rules = all_moved is_right_rule c.in-Some.subject.now.rules c.args.from c.args.to r.rules })

pub returns-clause-changed : goal.returns-clause-changed
returns-clause-changed c =
    let h = lent c.args.id.now c.args.self.now c.self.inside.subjects c.self.inside.places.keys c.in-Some.subject.now c.self.view_is c.self.invariant c.in-Some.ensures.found in
    changed_to h (with_rule_moved c.args.from c.args.to) _ (ap (λ rules. record c.in-Some.subject.now { rules = rules }) c.move_item.ensures)

pub returns-clause-well_formed : goal.returns-clause-well_formed
returns-clause-well_formed c = (invariant_of-self-2 c).0
