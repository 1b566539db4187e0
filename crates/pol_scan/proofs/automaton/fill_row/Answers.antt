-- A cell is kept for each column, and at the end of the row the next begins.
use Rattle.std.proofs.Common.{◌≡◌, ◌<◌, ℕ, sym, ◌∙◌, subst, arith}
use Rattle.pol_scan.specs.Discovery.{StandsAt}
use Rattle.pol_scan.proofs.Lists.{length-zip}
use Rattle.pol_scan.proofs.Filling.{stands_at_next, stands_at_next_row, more_than}
use Rattle.pol_scan.proofs.automaton.fill_row.Goals as goal

pub returns-then-len-limit-clause-too_many : goal.returns-then-len-limit-clause-too_many
returns-then-len-limit-clause-too_many g c _ =
    let found = c.in_ok-next.ensures.advances.found in
    more_than _ _ _ _ c.args.limit found (omega (arith, length-zip _ _ _ found.led, c.if-len-limit.true, c.len.ensures.len))

pub columns-preserved : goal.columns-preserved
columns-preserved g c =
    let machine = g.M.Machine in
    let now = c.follow.new.machine in
    let before = c.columns.machine in
    let advances = c.in_ok-next.ensures.advances in
    let keeps = g.met.M.Machine.keeps before now c.in_ok-next.ensures.grows in
    record {
      number = advances.cell.from;
      width = c.columns.invariant.width ∙ sym keeps.columns;
      few = omega (arith, length-zip _ _ _ advances.found.led, c.if-len-limit.false, c.len.ensures.len);
      stands = rw c.in_ok-push.ensures.items (stands_at_next _ _ _ _ keeps _ _ _ _ _ c.args.number c.columns.column _ _ (subst (λ w. c.columns.column < w) c.columns.invariant.width c.columns-test.true) c.columns.invariant.stands advances);
      grows = g.met.M.Machine.transitive c.args.machine.now before now c.columns.invariant.grows c.in_ok-next.ensures.grows;
    }

pub returns-clause-stands : goal.returns-clause-stands
returns-clause-stands g c =
    let end : c.columns.column ≡ (g.M.Machine.congruence c.columns.machine).width = omega (arith, c.columns.invariant.width) in
    stands_at_next_row _ _ _ _ _ c.args.number c.columns.invariant.number
    (subst (λ (w : ℕ). StandsAt (g.M.Machine.congruence c.columns.machine) (g.M.Machine.leads c.columns.machine) c.columns.found.words c.columns.found.states.keys c.columns.cells.items c.args.number w) end c.columns.invariant.stands)

pub columns-init : goal.columns-init
columns-init g c = record {
  number = c.requires.number;
  width = c.requires.width;
  few = c.requires.few;
  stands = c.requires.stands;
  grows = g.met.M.Machine.reflexive c.args.machine.now;
}

pub follow-requires : goal.follow-requires
follow-requires g c = record {
  number = c.columns.invariant.number;
  column = subst (λ w. c.columns.column < w) c.columns.invariant.width c.columns-test.true;
  found = c.columns.invariant.stands.found;
  after = c.columns.invariant.stands.after c.columns.invariant.number;
}

pub returns-in_err-next-clause-width : goal.returns-in_err-next-clause-width
returns-in_err-next-clause-width g c = c.columns.invariant.width ∙ sym (g.met.M.Machine.keeps c.columns.machine c.follow.new.machine c.in_err-next.ensures.grows).columns

pub returns-in_err-next-clause-grows : goal.returns-in_err-next-clause-grows
returns-in_err-next-clause-grows g c = g.met.M.Machine.transitive c.args.machine.now c.columns.machine c.follow.new.machine c.columns.invariant.grows c.in_err-next.ensures.grows

pub returns-then-len-limit-clause-width : goal.returns-then-len-limit-clause-width
returns-then-len-limit-clause-width g c = c.columns.invariant.width ∙ sym (g.met.M.Machine.keeps c.columns.machine c.follow.new.machine c.in_ok-next.ensures.grows).columns

pub returns-then-len-limit-clause-grows : goal.returns-then-len-limit-clause-grows
returns-then-len-limit-clause-grows g c = g.met.M.Machine.transitive c.args.machine.now c.columns.machine c.follow.new.machine c.columns.invariant.grows c.in_ok-next.ensures.grows

pub returns-in_err-push-clause-width : goal.returns-in_err-push-clause-width
returns-in_err-push-clause-width g c = c.columns.invariant.width ∙ sym (g.met.M.Machine.keeps c.columns.machine c.follow.new.machine c.in_ok-next.ensures.grows).columns

pub returns-in_err-push-clause-grows : goal.returns-in_err-push-clause-grows
returns-in_err-push-clause-grows g c = g.met.M.Machine.transitive c.args.machine.now c.columns.machine c.follow.new.machine c.columns.invariant.grows c.in_ok-next.ensures.grows

pub returns-clause-number : goal.returns-clause-number
returns-clause-number g c = c.columns.invariant.number

pub returns-clause-few : goal.returns-clause-few
returns-clause-few g c = c.columns.invariant.few

pub returns-clause-width : goal.returns-clause-width
returns-clause-width g c = c.columns.invariant.width

pub returns-clause-grows : goal.returns-clause-grows
returns-clause-grows g c = c.columns.invariant.grows
