use Rattle.pol_automaton.specs.Having.{adds_derivatives}
use Rattle.pol_automaton.proofs.stepping.push_derivatives.Goals as goal

pub returns-clause-adds : goal.returns-clause-adds
returns-clause-adds c =
    let lent = c.derivatives.follows.holds-at-none in
    let after = c.derivatives.follows.lender-at-none in
    let sets = rw c.in_ok-numbers.was at lent.1 in
    rw c.in_ok-push_each.ensures
    (adds_derivatives c.args.terms.now after c.args.symbol c.args.item c.args.derived.now.items c.in_ok-numbers.numbers.now lent.0 c.requires.item c.requires.within sets)
