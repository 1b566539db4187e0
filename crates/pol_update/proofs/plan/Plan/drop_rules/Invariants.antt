use Rattle.std.proofs.Common.{drop}
use Rattle.std.specs.Option.{option_map}
use Rattle.pol_text.specs.Policy.{find_subject}
use Rattle.pol_text.specs.declared.subject.Subject.{Subject}
use Rattle.pol_update.specs.Planning.{IsTurned, with_rules}
use Rattle.pol_update.proofs.plan.Plan.drop_rules.Given as goal

abbrev pub invariant-rules : goal.invariant-rules
invariant-rules l = IsTurned l.id (option_map (λ (s : Subject). with_rules (drop l.counter s.rules) s) (find_subject l.id l.fn.self.made)) l.fn.self l.self
