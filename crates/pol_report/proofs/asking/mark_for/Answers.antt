use Rattle.pol_report.proofs.asking.mark_for.Goals as goal

pub returns-in-Some-clause-marked : goal.returns-in-Some-clause-marked
returns-in-Some-clause-marked c = λ service place at none.
    let here = c.mark_along.ensures.marked service place at none in
    (here.0, rw (← c.user.ensures, ← c.in-Some.ensures.found) here.1)
