use Rattle.pol_automaton.specs.Telling.{begun}
use Rattle.pol_automaton.proofs.entries.EntriesMachine.start.Goals as goal

pub returns-clause-leads : goal.returns-clause-leads
returns-clause-leads c =
    let i = c.self.inside in
    rw (← c.self.view_is)
    (begun i.alphabet i.terms i.start.items c.cut.new.items.items c.cut.ensures.right (rw (c.in_ok-start.ensures.items, c.deref.ensures.value) at c.cut.ensures.cut))
