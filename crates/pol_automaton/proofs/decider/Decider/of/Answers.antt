use Rattle.std.proofs.Common.{◌≡◌, Err, ap, arith}
use Rattle.std.specs.Global.{Vec}
use Rattle.std.proofs.lemmas.Result.{err_from_is_err_and}
use Rattle.pol_scan.specs.Table.{count}
use Rattle.pol_scan.specs.declared.fault.ScanFault.TheVariants as scan
use Rattle.pol_automaton.specs.declared.entry_term.EntryTerm.{EntryTerm}
use Rattle.pol_automaton.specs.declared.fault.DeciderFault.TheVariants.{TooManyStates}
use Rattle.pol_automaton.specs.Faults.{fault_of, too_many_from}
use Rattle.pol_automaton.specs.Scanning.{AreResiduals}
use Rattle.pol_automaton.proofs.Counting.{excludes, one_count}
use Rattle.pol_automaton.proofs.Zips.{zip_all}
use Rattle.pol_automaton.proofs.Machines.{Marks, more_residuals, residual_count}
use Rattle.pol_automaton.proofs.Deciding.{IsScanned, tells_residuals, whole_decider, is_scanned}
use Rattle.pol_automaton.proofs.decider.Decider.of.Goals as goal
use Rattle.pol_automaton.proofs.decider.Decider.of.Goals.{After-alphabet}

pub returns-in_err-table-clause-too_many : goal.returns-in_err-table-clause-too_many
returns-in_err-table-clause-too_many c =
    let p = err_from_is_err_and c.from_residual.result c.from_residual.ensures.1 in
    rw (p.1, p.2) (λ sources are h.
    let same : fault_of c.in_err-table.field-0.0 ≡ TooManyStates = cc in
    let is : c.in_err-table.field-0.0 ≡ scan.TooMany = too_many_from c.in_err-table.field-0.0 same in
    more_residuals _ _ sources (tells_residuals c.args.entries sources c.count-count.ensures.whole are) c.args.limit (c.in_err-table.ensures.too_many (ap Err is)))

pub returns-in_err-table-clause-excludes : goal.returns-in_err-table-clause-excludes
returns-in_err-table-clause-excludes c = excludes

pub firsts-requires : goal.firsts-requires
firsts-requires c =
    rw c.as_slice.ensures.keys
    (zip_all _ (λ (state : Vec EntryTerm). AreResiduals c.scan.new.machine.terms state.items) (λ word state led. led.right) c.in_ok-table.field-0.table.words c.in_ok-table.field-0.states.keys c.in_ok-table.ensures.states)

pub returns-in_err-firsts-clause-excludes : goal.returns-in_err-firsts-clause-excludes
returns-in_err-firsts-clause-excludes c = excludes

pub sures-requires : goal.sures-requires
sures-requires c =
    rw c.as_slice-2.ensures.keys
    (zip_all _ (λ (state : Vec EntryTerm). AreResiduals c.scan.new.machine.terms state.items) (λ word state led. led.right) c.in_ok-table.field-0.table.words c.in_ok-table.field-0.states.keys c.in_ok-table.ensures.states)

pub returns-in_err-sures-clause-excludes : goal.returns-in_err-sures-clause-excludes
returns-in_err-sures-clause-excludes c = excludes

pub returns-clause-excludes : goal.returns-clause-excludes
returns-clause-excludes c = excludes

marks : (c : After-alphabet) → Marks
marks c = record { firsts = c.in_ok-firsts.firsts.items; sures = c.in_ok-sures.sures.items }

scanned : (c : After-alphabet) → IsScanned c.args.entries c.scan.new.machine c.in_ok-table.field-0.table c.in_ok-table.field-0.states.keys (marks c)
unfolding marks
scanned c = record {
  whole = c.count-count.ensures.whole;
  grows = c.in_ok-table.ensures.grows;
  found = record { automaton = c.in_ok-table.ensures.automaton; index = c.in_ok-table.ensures.index };
  led = c.in_ok-table.ensures.states;
  matched = rw c.as_slice.ensures.keys at c.in_ok-firsts.ensures;
  sure = rw c.as_slice-2.ensures.keys at c.in_ok-sures.ensures;
}

pub invariant_of-result : goal.invariant_of-result
unfolding marks
invariant_of-result c =
    rw (c.alphabet.ensures, c.in_ok-table.ensures.grows.alphabet, c.count-count.ensures.value)
    (whole_decider c.args.entries c.scan.new.machine c.in_ok-table.field-0.table c.in_ok-table.field-0.states.keys (marks (goal.at.invariant_of-result c).After-alphabet) (scanned (goal.at.invariant_of-result c).After-alphabet))

pub returns-clause-decider : goal.returns-clause-decider
unfolding marks
returns-clause-decider c = λ sources are.
    rw (c.alphabet.ensures, c.in_ok-table.ensures.grows.alphabet, c.count-count.ensures.value)
    (is_scanned c.args.entries sources c.count-count.ensures.whole are c.scan.new.machine c.in_ok-table.field-0.table c.in_ok-table.field-0.states.keys (marks (goal.at.returns-clause-decider c).After-alphabet) (scanned (goal.at.returns-clause-decider c).After-alphabet))

pub returns-clause-exact : goal.returns-clause-exact
returns-clause-exact c = λ sources residuals are has.
    let made = c.in_ok-table.field-0.table in
    let tells = tells_residuals c.args.entries sources c.count-count.ensures.whole are in
    let is : residuals ≡ count made = one_count sources residuals (count made) has (residual_count _ _ sources tells (count made) c.in_ok-table.ensures.index) in
    omega (arith, is, c.raise.ensures, c.states-2.ensures.many)
