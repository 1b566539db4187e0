use Rattle.pol_update.proofs.Same.{some_alike}
use Rattle.pol_update.proofs.comparing.are_alike.Goals as goal

pub returns-in-Some-Some : goal.returns-in-Some-Some
returns-in-Some-Some c = rw (c.in-Some-Some.is-0, c.in-Some-Some.is-1) (some_alike c.in-Some-Some.one.now c.in-Some-Some.other.now c.eq.result c.eq.ensures)
