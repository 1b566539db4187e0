use Rattle.std.proofs.Common.{◌≡◌, ◌<◌, ◌+◌, ◌++◌, Err, ap, List, ℕ, arith}
use Rattle.std.proofs.lemmas.Result.{err_from_is_err_and}
use Rattle.pol_scan.specs.Table.{count}
use Rattle.pol_scan.specs.declared.fault.ScanFault.TheVariants as scan
use Rattle.pol_automaton.specs.declared.fault.DeciderFault.TheVariants.{TooManyStates}
use Rattle.pol_automaton.specs.Faults.{fault_of, too_many_from}
use Rattle.pol_automaton.specs.Joining.{AreJoined, led_back}
use Rattle.pol_automaton.proofs.Counting.{excludes, one_count}
use Rattle.pol_automaton.proofs.Zips.{zip_all}
use Rattle.pol_automaton.proofs.Machines.{Marks, more_residuals, residual_count}
use Rattle.pol_automaton.proofs.Joined.{IsJoined, first_refined, second_refined, whole_joined, tells_joined, is_joined}
use Rattle.pol_automaton.proofs.decider.Decider.join.Goals as goal
use Rattle.pol_automaton.proofs.decider.Decider.join.Goals.{After-raise}

pub returns-in_default-clause-excludes : goal.returns-in_default-clause-excludes
returns-in_default-clause-excludes c = excludes

pub returns-in_err-table-clause-excludes : goal.returns-in_err-table-clause-excludes
returns-in_err-table-clause-excludes c = excludes

pub returns-in_err-firsts-clause-excludes : goal.returns-in_err-firsts-clause-excludes
returns-in_err-firsts-clause-excludes c = excludes

pub returns-in_err-sures-clause-excludes : goal.returns-in_err-sures-clause-excludes
returns-in_err-sures-clause-excludes c = excludes

pub returns-clause-excludes : goal.returns-clause-excludes
returns-clause-excludes c = excludes

pub returns-in_err-table-clause-too_many : goal.returns-in_err-table-clause-too_many
returns-in_err-table-clause-too_many c =
    let p = err_from_is_err_and c.from_residual.result c.from_residual.ensures.1 in
    let letters = c.join-alphabet in
    let both = rw (c.alphabet.ensures, c.alphabet-2.ensures) at letters.ensures.classes in
    rw (p.1, p.2) (λ own others d e h.
    let same : fault_of c.in_err-table.field-0.0 ≡ TooManyStates = cc in
    let is : c.in_err-table.field-0.0 ≡ scan.TooMany = too_many_from c.in_err-table.field-0.0 same in
    more_residuals _ _ _ (tells_joined letters.result letters.ensures.alphabet c.args.first.now c.args.rest.now both own others d e) c.args.limit
    (c.in_err-table.ensures.too_many (ap Err is)))

pub sures_of_pairs-requires : goal.sures_of_pairs-requires
sures_of_pairs-requires c =
    rw c.as_slice-2.ensures.keys
    (zip_all (λ (word : List ℕ) (s : ℕ × ℕ). AreJoined c.join-alphabet.result c.args.first.now c.args.rest.now word s.0 s.1) (λ (s : ℕ × ℕ). (s.0 < count c.args.first.now.table) × (s.1 < count c.args.rest.now.table)) (λ word s led. (led.first_within, led.second_within))
    c.in_ok-table.field-0.table.words c.in_ok-table.field-0.states.keys
    (led_back _ _ _ _ _ _ c.in_ok-table.ensures.grows.0 c.in_ok-table.ensures.grows.1 c.in_ok-table.ensures.grows.2 c.in_ok-table.field-0.table.words c.in_ok-table.field-0.states.keys c.in_ok-table.ensures.states))

pub firsts_of_pairs-requires-clause-within : goal.firsts_of_pairs-requires-clause-within
firsts_of_pairs-requires-clause-within c =
    rw c.as_slice.ensures.keys
    (zip_all (λ (word : List ℕ) (s : ℕ × ℕ). AreJoined c.join-alphabet.result c.args.first.now c.args.rest.now word s.0 s.1) (λ (s : ℕ × ℕ). (s.0 < count c.args.first.now.table) × (s.1 < count c.args.rest.now.table)) (λ word s led. (led.first_within, led.second_within))
    c.in_ok-table.field-0.table.words c.in_ok-table.field-0.states.keys
    (led_back _ _ _ _ _ _ c.in_ok-table.ensures.grows.0 c.in_ok-table.ensures.grows.1 c.in_ok-table.ensures.grows.2 c.in_ok-table.field-0.table.words c.in_ok-table.field-0.states.keys c.in_ok-table.ensures.states))

marks : (c : After-raise) → Marks
marks c = record { firsts = c.in_ok-firsts.firsts.items; sures = c.in_ok-sures.sures.items }

joined : (c : After-raise) → IsJoined c.join-alphabet.result c.args.first.now c.args.rest.now c.in_ok-table.field-0.table c.in_ok-table.field-0.states.keys (marks c)
unfolding marks
joined c = record {
  letters = c.join-alphabet.ensures.alphabet;
  first = first_refined c.join-alphabet.result c.args.first.now.alphabet c.args.rest.now.alphabet (rw (c.alphabet.ensures, c.alphabet-2.ensures) at c.join-alphabet.ensures.classes);
  second = second_refined c.join-alphabet.result c.args.first.now.alphabet c.args.rest.now.alphabet (rw (c.alphabet.ensures, c.alphabet-2.ensures) at c.join-alphabet.ensures.classes);
  found = record { automaton = c.in_ok-table.ensures.automaton; index = c.in_ok-table.ensures.index };
  led = led_back _ _ _ _ _ _ c.in_ok-table.ensures.grows.0 c.in_ok-table.ensures.grows.1 c.in_ok-table.ensures.grows.2 c.in_ok-table.field-0.table.words c.in_ok-table.field-0.states.keys c.in_ok-table.ensures.states;
  matched = rw c.as_slice.ensures.keys at c.in_ok-firsts.ensures;
  sure = rw c.as_slice-2.ensures.keys at c.in_ok-sures.ensures;
}

pub invariant_of-result : goal.invariant_of-result
unfolding marks
invariant_of-result c =
    let sum : c.in-Some.entries ≡ c.args.first.now.entries + c.args.rest.now.entries = omega (arith, c.in-Some.ensures.1, c.entries.ensures.value, c.entries-2.ensures.value) in
    rw sum
    (whole_joined c.join-alphabet.result c.args.first.now c.args.rest.now c.in_ok-table.field-0.table c.in_ok-table.field-0.states.keys (marks (goal.at.invariant_of-result c).After-raise) c.entries.ensures.whole c.entries-2.ensures.whole
    (joined (goal.at.invariant_of-result c).After-raise))

pub returns-clause-decider : goal.returns-clause-decider
unfolding marks
returns-clause-decider c = λ own others d e.
    let sum : c.in-Some.entries ≡ c.args.first.now.entries + c.args.rest.now.entries = omega (arith, c.in-Some.ensures.1, c.entries.ensures.value, c.entries-2.ensures.value) in
    let letters = c.join-alphabet in
    let both = rw (c.alphabet.ensures, c.alphabet-2.ensures) at letters.ensures.classes in
    rw sum
    (is_joined letters.result letters.ensures.alphabet c.args.first.now c.args.rest.now both own others d e c.in_ok-table.field-0.table c.in_ok-table.field-0.states.keys (marks (goal.at.returns-clause-decider c).After-raise)
    (joined (goal.at.returns-clause-decider c).After-raise))

pub returns-clause-exact : goal.returns-clause-exact
returns-clause-exact c = λ own others residuals d e has.
    let made = c.in_ok-table.field-0.table in
    let letters = c.join-alphabet in
    let both = rw (c.alphabet.ensures, c.alphabet-2.ensures) at letters.ensures.classes in
    let tells = tells_joined letters.result letters.ensures.alphabet c.args.first.now c.args.rest.now both own others d e in
    let is : residuals ≡ count made =
    one_count (own ++ others) residuals (count made) has (residual_count _ _ (own ++ others) tells (count made) c.in_ok-table.ensures.index) in
    omega (arith, is, c.raise.ensures, c.states-2.ensures.many)
