use Rattle.pol_automaton.proofs.Cut.{is_some_sure}
use Rattle.pol_automaton.proofs.cutting.is_sure.Goals as goal

pub returns : goal.returns
returns c = rw c.is_some.ensures (is_some_sure c.args.terms.now c.args.items.now c.first_sure.result c.first_sure.ensures.some c.first_sure.ensures.none)
