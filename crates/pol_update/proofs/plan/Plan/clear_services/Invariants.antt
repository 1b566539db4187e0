use Rattle.std.specs.Option.{option_map}
use Rattle.pol_text.specs.Policy.{find_subject}
use Rattle.pol_text.specs.declared.subject.Subject.{Subject}
use Rattle.pol_update.specs.Planning.{IsTurned, with_services}
use Rattle.pol_update.proofs.Takes.{cleared}
use Rattle.pol_update.proofs.plan.Plan.clear_services.Given as goal

abbrev pub invariant-lines : goal.invariant-lines
invariant-lines l = IsTurned l.id (option_map (λ (s : Subject). with_services (cleared l.counter s.services) s) (find_subject l.id l.fn.self.made)) l.fn.self l.self
