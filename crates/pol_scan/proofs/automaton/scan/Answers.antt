-- When every found state has its row, the table is the automaton.
use Rattle.std.proofs.Common.{◌≡◌, ℕ, length, Err, ap, subst, arith}
use Rattle.std.proofs.lemmas.Result.{err_from_is_err_and}
use Rattle.pol_scan.specs.declared.fault.ScanFault.TheVariants.{TooMany}
use Rattle.pol_scan.specs.Discovery.{StandsAt}
use Rattle.pol_scan.proofs.Lists.{length-zip}
use Rattle.pol_scan.proofs.Classes.{above_before, excludes}
use Rattle.pol_scan.proofs.Completing.{whole, complete, automaton, index}
use Rattle.pol_scan.proofs.automaton.scan.Given.{Over}
use Rattle.pol_scan.proofs.automaton.scan.Goals as goal
use Rattle.pol_scan.proofs.automaton.scan.Goals.{After-rows}

pub fill_row-requires-clause-number : goal.fill_row-requires-clause-number
fill_row-requires-clause-number g c = omega (arith, length-zip _ _ _ c.rows.invariant.stands.found.led, c.rows-test.true, c.len.ensures.len)

pub returns-in_err-fill_row-clause-too_many : goal.returns-in_err-fill_row-clause-too_many
returns-in_err-fill_row-clause-too_many g c =
    let p = err_from_is_err_and c.from_residual-in_err-fill_row.result c.from_residual-in_err-fill_row.ensures.1 in
    let grows = g.met.M.Machine.transitive c.args.machine.now c.rows.machine c.fill_row.new.machine c.rows.invariant.grows c.in_err-fill_row.ensures.grows in
    rw (p.1, p.2) (λ h.
    let is : c.in_err-fill_row.field-0.0 ≡ TooMany = cc in
    above_before _ _ _ _ (g.met.M.Machine.keeps c.args.machine.now c.fill_row.new.machine grows) c.args.limit (c.in_err-fill_row.ensures.too_many (ap Err is)))

pub rows-smaller : goal.rows-smaller
rows-smaller g c = omega (arith, length-zip _ _ _ c.rows.invariant.stands.found.led, c.rows-test.true, c.len.ensures.len, c.rows.invariant.few)

pub rows-preserved : goal.rows-preserved
rows-preserved g c =
    record {
      number = omega (arith, c.in_ok-fill_row.ensures.number);
      width = c.in_ok-fill_row.ensures.width;
      few = c.in_ok-fill_row.ensures.few;
      stands = c.in_ok-fill_row.ensures.stands;
      grows = g.met.M.Machine.transitive c.args.machine.now c.rows.machine c.fill_row.new.machine c.rows.invariant.grows c.in_ok-fill_row.ensures.grows;
    }

-- what is known once the row of the last state is filled
stands_at_end : (g : Over) (c : After-rows g) → StandsAt (g.M.Machine.congruence c.rows.machine) (g.M.Machine.leads c.rows.machine)
    c.rows.found.words c.rows.found.states.keys c.rows.cells.items (length c.rows.found.words) 0
stands_at_end g c =
    let known = c.rows.invariant in
    let at_end : c.rows.number ≡ length c.rows.found.words = omega (arith, length-zip _ _ _ known.stands.found.led, c.rows-test.false, c.len.ensures.len, known.number) in
    subst (λ (n : ℕ). StandsAt (g.M.Machine.congruence c.rows.machine) (g.M.Machine.leads c.rows.machine)
    c.rows.found.words c.rows.found.states.keys c.rows.cells.items n 0) at_end known.stands

pub new-requires : goal.new-requires
new-requires g c = whole _ _ _ c.rows.invariant.width _ _ _ (stands_at_end g (goal.at.new-requires g c).After-rows) _ (omega (arith, c.rows.invariant.few, c.ranges.limit))

pub returns-clause-automaton : goal.returns-clause-automaton
returns-clause-automaton g c =
    rw c.in_ok-table.ensures (automaton _ _ (complete _ _ _ c.rows.invariant.width _ _ _ (stands_at_end g (goal.at.returns-clause-automaton g c).After-rows) _ _
    (g.met.M.Machine.keeps c.args.machine.now c.rows.machine c.rows.invariant.grows)))

pub returns-clause-index : goal.returns-clause-index
returns-clause-index g c =
    rw c.in_ok-table.ensures (index _ _ (complete _ _ _ c.rows.invariant.width _ _ _ (stands_at_end g (goal.at.returns-clause-index g c).After-rows) _ _
    (g.met.M.Machine.keeps c.args.machine.now c.rows.machine c.rows.invariant.grows)))

pub returns-in_err-found-clause-excludes : goal.returns-in_err-found-clause-excludes
returns-in_err-found-clause-excludes g c index has few = excludes _ index c.args.limit has few

pub returns-then-limit-eq0-clause-excludes : goal.returns-then-limit-eq0-clause-excludes
returns-then-limit-eq0-clause-excludes g c index has few = excludes _ index c.args.limit has few

pub returns-in_err-fill_row-clause-excludes : goal.returns-in_err-fill_row-clause-excludes
returns-in_err-fill_row-clause-excludes g c index has few = excludes _ index c.args.limit has few

pub returns-in_err-table-clause-excludes : goal.returns-in_err-table-clause-excludes
returns-in_err-table-clause-excludes g c index has few = excludes _ index c.args.limit has few

pub returns-clause-excludes : goal.returns-clause-excludes
returns-clause-excludes g c index has few = excludes _ index c.args.limit has few
