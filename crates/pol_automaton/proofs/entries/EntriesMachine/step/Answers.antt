use Rattle.pol_scan.specs.Alphabet.{least_of}
use Rattle.pol_automaton.specs.Entries.{Entries}
use Rattle.pol_automaton.specs.Scanning.{AreResiduals}
use Rattle.std.proofs.Common.{List}
use Rattle.pol_automaton.specs.declared.entry_term.EntryTerm.{EntryTerm}
use Rattle.pol_automaton.specs.Stepping.{AreDerivatives, AreCut}
use Rattle.pol_automaton.specs.Telling.{stepped}
use Rattle.pol_automaton.proofs.Collecting.{if_ok_both, whole_terms, grows_terms}
use Rattle.pol_automaton.proofs.entries.EntriesMachine.step.Goals as goal

pub invariant_of-self : goal.invariant_of-self
invariant_of-self c =
    let e : Entries = record { alphabet = c.self.inside.alphabet; terms = c.self.inside.terms; start = c.self.inside.start.items; count = c.self.inside.count } in
    whole_terms e c.step.new.terms c.self.invariant c.step.ensures.grows

pub returns-clause-leads : goal.returns-clause-leads
returns-clause-leads c =
    let i = c.self.inside in
    rw (← c.self.view_is)
    (if_ok_both (λ next. AreResiduals c.step.new.terms next.items)
    (λ next. (derived : List EntryTerm) × AreDerivatives i.terms c.step.new.terms (least_of i.alphabet c.args.column) c.args.state.now.items derived × AreCut c.step.new.terms derived next.items) _ c.step.result
    (λ next right exact word led.
    stepped i.alphabet i.terms c.step.new.terms i.start.items c.args.column c.args.state.now.items exact.0 next.items c.step.ensures.grows c.self.invariant.right right
    (c.self.invariant.letters.symbols c.args.column (rw (← c.self.view_is) at c.requires.column)) exact.1 exact.2 word led)
    c.step.ensures.right (rw (c.least_of-symbol.ensures.value, c.deref.ensures.value) at c.step.ensures.exact))

pub returns-clause-grows : goal.returns-clause-grows
returns-clause-grows c =
    let e : Entries = record { alphabet = c.self.inside.alphabet; terms = c.self.inside.terms; start = c.self.inside.start.items; count = c.self.inside.count } in
    rw (← c.self.view_is) (grows_terms e c.step.new.terms c.self.invariant c.step.ensures.grows)
