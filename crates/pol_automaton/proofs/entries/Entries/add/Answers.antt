use Rattle.pol_pattern.specs.Flat.{terms_value}
use Rattle.pol_automaton.specs.Entries.{Entries}
use Rattle.pol_automaton.proofs.Divided.{IsDividedBy}
use Rattle.pol_automaton.proofs.Collecting.{on_err, whole_terms, grows_terms, entries_kept, told_by, AreFirst, whole_entry, entries_more}
use Rattle.pol_automaton.proofs.entries.Entries.add.Goals as goal
use Rattle.pol_automaton.proofs.entries.Entries.add.Goals.{After-push_all, After-divide_by_terms-alphabet}

pub invariant_of-self : goal.invariant_of-self
invariant_of-self c =
    let e : Entries = record { alphabet = c.self.inside.alphabet; terms = c.self.inside.terms; start = c.self.inside.start.items; count = c.self.inside.count } in
    whole_terms e c.start.new.self c.self.invariant c.start.ensures.grows

pub returns-in_err-set-clause-err : goal.returns-in_err-set-clause-err
returns-in_err-set-clause-err c =
    let e : Entries = record { alphabet = c.self.inside.alphabet; terms = c.self.inside.terms; start = c.self.inside.start.items; count = c.self.inside.count } in
    on_err c.from_residual.result (rw (← c.self.view_is) (entries_kept e _ (grows_terms e c.start.new.self c.self.invariant c.start.ensures.grows)))

pub invariant_of-self-in_err-push_all : goal.invariant_of-self-in_err-push_all
invariant_of-self-in_err-push_all c =
    let e : Entries = record { alphabet = c.self.inside.alphabet; terms = c.self.inside.terms; start = c.self.inside.start.items; count = c.self.inside.count } in
    rw c.in_err-push_all.ensures.err (whole_terms e c.start.new.self c.self.invariant c.start.ensures.grows)

pub returns-in_err-push_all-clause-err : goal.returns-in_err-push_all-clause-err
returns-in_err-push_all-clause-err c =
    let e : Entries = record { alphabet = c.self.inside.alphabet; terms = c.self.inside.terms; start = c.self.inside.start.items; count = c.self.inside.count } in
    on_err c.from_residual-in_err-push_all.result
    (rw (← c.self.view_is, c.in_err-push_all.ensures.err) (entries_kept e _ (grows_terms e c.start.new.self c.self.invariant c.start.ensures.grows)))

first : (c : After-push_all) → AreFirst c.start.new.self c.args.pattern.now c.numbers.result.now
first c = record {
  spelled = c.in_ok-set.ensures.spelled;
  told = told_by c.start.ensures.holds c.args.pattern.now;
  sets = λ flat spells. rw c.numbers.ensures.numbers (c.in_ok-set.ensures.residual flat spells);
}

divided : (c : After-divide_by_terms-alphabet) → IsDividedBy c.self.inside.alphabet c.divide_by_terms-alphabet.result c.args.pattern.now
divided c = record {
  flat = terms_value c.terms.result.now;
  spelled = c.terms.ensures.spelled;
  only = c.terms.ensures.only;
  classes = c.divide_by_terms-alphabet.ensures.classes;
}

pub divide_by_terms-alphabet-requires : goal.divide_by_terms-alphabet-requires
divide_by_terms-alphabet-requires c = c.self.invariant.letters

pub invariant_of-self-2 : goal.invariant_of-self-2
invariant_of-self-2 c =
    let e : Entries = record { alphabet = c.self.inside.alphabet; terms = c.self.inside.terms; start = c.self.inside.start.items; count = c.self.inside.count } in
    rw c.in_ok-push_all.ensures.ok
    (whole_entry e c.divide_by_terms-alphabet.result c.start.new.self c.args.pattern.now c.numbers.result.now c.self.invariant c.divide_by_terms-alphabet.ensures.alphabet c.start.ensures.grows c.numbers.ensures.sorted (first (goal.at.invariant_of-self-2 c).After-push_all))

pub returns-clause-ok : goal.returns-clause-ok
returns-clause-ok c =
    let e : Entries = record { alphabet = c.self.inside.alphabet; terms = c.self.inside.terms; start = c.self.inside.start.items; count = c.self.inside.count } in
    rw (← c.self.view_is, c.in_ok-push_all.ensures.ok)
    (entries_more e c.divide_by_terms-alphabet.result c.start.new.self c.args.pattern.now c.numbers.result.now c.self.invariant (divided (goal.at.returns-clause-ok c).After-divide_by_terms-alphabet) c.start.ensures.grows (first (goal.at.returns-clause-ok c).After-push_all))
