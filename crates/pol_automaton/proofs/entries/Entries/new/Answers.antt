use Rattle.pol_automaton.proofs.Collecting.{no_entries, no_whole}
use Rattle.pol_automaton.proofs.entries.Entries.new.Goals as goal

pub invariant_of-result : goal.invariant_of-result
invariant_of-result c = rw (c.new.ensures, c.new-2.ensures.items) (no_whole c.undivided.result c.undivided.ensures.alphabet)

pub returns : goal.returns
returns c = rw (c.new.ensures, c.new-2.ensures.items) (no_entries c.undivided.result c.undivided.ensures.classes)
