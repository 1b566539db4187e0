use Rattle.std.proofs.Common.{sym}
use Rattle.pol_given.proofs.SayingFacts.{same_services, same_shell}
use Rattle.pol_given.proofs.comparing.says_the_same.Goals as goal

pub returns-in-Some-Some-clause-services : goal.returns-in-Some-Some-clause-services
returns-in-Some-Some-clause-services c = λ yes service.
    same_services c.args.old.now c.args.new.now c.args.user.now c.in-Some-Some.one.now c.in-Some-Some.two.now (rw (← c.user-id.ensures) (sym c.in-Some-Some.ensures.found)) (rw (← c.user-id.ensures) (sym c.in-Some-Some.ensures'.found)) (c.alike_along.ensures yes) service

pub returns-in-Some-Some-clause-shell : goal.returns-in-Some-Some-clause-shell
returns-in-Some-Some-clause-shell c = λ yes.
    same_shell c.args.old.now c.args.new.now c.args.user.now c.in-Some-Some.one.now c.in-Some-Some.two.now (rw (← c.user-id.ensures) (sym c.in-Some-Some.ensures.found)) (rw (← c.user-id.ensures) (sym c.in-Some-Some.ensures'.found)) (c.alike_along.ensures yes)
