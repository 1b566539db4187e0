use Rattle.pol_automaton.proofs.Cut.{cut_up_to, right_up_to, cut_nothing}
use Rattle.pol_automaton.proofs.cutting.cut.Goals as goal

pub returns-in-Some-clause-right : goal.returns-in-Some-clause-right
returns-in-Some-clause-right c =
    rw c.keep_up_to.ensures
    (right_up_to c.args.terms.now c.args.items.now.items c.requires c.in-Some.sure (rw c.deref.ensures.value at c.in-Some.ensures.some))

pub returns-in-Some-clause-cut : goal.returns-in-Some-clause-cut
returns-in-Some-clause-cut c =
    rw c.keep_up_to.ensures
    (cut_up_to c.args.terms.now c.args.items.now.items c.requires c.in-Some.sure (rw c.deref.ensures.value at c.in-Some.ensures.some))

pub returns-in_default-clause-cut : goal.returns-in_default-clause-cut
returns-in_default-clause-cut c =
    cut_nothing c.args.terms.now c.args.items.now.items c.requires (rw c.deref.ensures.value at c.in_default.ensures.none)
