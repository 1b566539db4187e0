use Rattle.pol_report.specs.Comparing.{later_policy}
use Rattle.pol_report.proofs.SayingFacts.{alike_services, alike_shell}
use Rattle.pol_report.proofs.comparison.Comparison.gives_the_same.Goals as goal

pub returns-then-self-clause-services : goal.returns-then-self-clause-services
returns-then-self-clause-services c = λ yes service.
    rw (← c.self.view_is) (alike_services c.self.inside.old.now (later_policy c.self.inside.new) (c.self.invariant.2 yes) c.args.user.now service)

pub returns-then-self-clause-shell : goal.returns-then-self-clause-shell
returns-then-self-clause-shell c = λ yes.
    rw (← c.self.view_is) (alike_shell c.self.inside.old.now (later_policy c.self.inside.new) (c.self.invariant.2 yes) c.args.user.now)
