use Rattle.std.proofs.Common.{◌&&◌, length, nat_lt, nat_le, refl, ltb-true, leb-true}
use Rattle.std.proofs.lemmas.Bool.{and_parts}
use Rattle.pol_text.specs.declared.subject.Subject.{Subject}
use Rattle.pol_text.specs.Policy.{is_right_rule, max_rules}
use Rattle.pol_text.specs.Change.{with_rule_at}
use Rattle.pol_text.proofs.Placed.{lent, not_missing, changed_to, fields_to, unchanged_to, on_err, fields_unchanged, right_now, test_now, test_there}
use Rattle.pol_text.proofs.Rules.{all_insert, few_inserted}
use Rattle.pol_text.proofs.policy.Policy.insert_rule.Goals as goal

pub returns-in_default-clause-ok : goal.returns-in_default-clause-ok
returns-in_default-clause-ok c =
    not_missing c.args.id.now c.args.self.now c.self.inside.subjects c.self.view_is c.in_default.ensures.found (test_there _ (λ (s : Subject). nat_le c.args.at (length s.rules) && nat_lt (length s.rules) max_rules) c.requires)

pub insert_rule-requires : goal.insert_rule-requires
insert_rule-requires c =
    let h = lent c.args.id.now c.args.self.now c.self.inside.subjects c.self.inside.places.keys c.in-Some.subject.now c.self.view_is c.self.invariant c.in-Some.ensures.found in
    let both = and_parts (nat_le c.args.at (length c.in-Some.subject.now.rules)) (nat_lt (length c.in-Some.subject.now.rules) max_rules) (test_now h (λ (s : Subject). nat_le c.args.at (length s.rules) && nat_lt (length s.rules) max_rules) c.requires) in
    leb-true c.args.at (length c.in-Some.subject.now.rules) both.0

pub invariant_of-self-in_err-insert_rule : goal.invariant_of-self-in_err-insert_rule
invariant_of-self-in_err-insert_rule c =
    let h = lent c.args.id.now c.args.self.now c.self.inside.subjects c.self.inside.places.keys c.in-Some.subject.now c.self.view_is c.self.invariant c.in-Some.ensures.found in
    fields_unchanged h _ c.in_err-insert_rule.ensures.err

pub returns-in_err-insert_rule-clause-err : goal.returns-in_err-insert_rule-clause-err
returns-in_err-insert_rule-clause-err c =
    let h = lent c.args.id.now c.args.self.now c.self.inside.subjects c.self.inside.places.keys c.in-Some.subject.now c.self.view_is c.self.invariant c.in-Some.ensures.found in
    on_err c.from_residual.result (unchanged_to h _ c.in_err-insert_rule.ensures.err)

pub invariant_of-self-2 : goal.invariant_of-self-2
invariant_of-self-2 c =
    let h = lent c.args.id.now c.args.self.now c.self.inside.subjects c.self.inside.places.keys c.in-Some.subject.now c.self.view_is c.self.invariant c.in-Some.ensures.found in
    let both = and_parts (nat_le c.args.at (length c.in-Some.subject.now.rules)) (nat_lt (length c.in-Some.subject.now.rules) max_rules) (test_now h (λ (s : Subject). nat_le c.args.at (length s.rules) && nat_lt (length s.rules) max_rules) c.requires) in
    let r = right_now h in
    fields_to h (with_rule_at c.args.at c.args.rule) _ c.in_ok-insert_rule.ensures.ok (λ t. refl) (λ t. refl)
    (record { name = r.name; parent = r.parent; login = r.login; enable = r.enable; secrets = r.secrets; level = r.level; services = r.services; few = few_inserted c.in-Some.subject.now.rules c.args.at c.args.rule (leb-true c.args.at (length c.in-Some.subject.now.rules) both.0) (ltb-true (length c.in-Some.subject.now.rules) max_rules both.1); rules = all_insert is_right_rule c.in-Some.subject.now.rules c.args.at c.args.rule r.rules c.in_ok-insert_rule.ensures.right })

pub returns-clause-ok : goal.returns-clause-ok
returns-clause-ok c =
    let h = lent c.args.id.now c.args.self.now c.self.inside.subjects c.self.inside.places.keys c.in-Some.subject.now c.self.view_is c.self.invariant c.in-Some.ensures.found in
    changed_to h (with_rule_at c.args.at c.args.rule) _ c.in_ok-insert_rule.ensures.ok

pub returns-clause-well_formed : goal.returns-clause-well_formed
returns-clause-well_formed c = (invariant_of-self-2 c).0

pub returns-in_err-insert_rule-clause-well_formed : goal.returns-in_err-insert_rule-clause-well_formed
returns-in_err-insert_rule-clause-well_formed c = (invariant_of-self-in_err-insert_rule c).0
