-- A new state that accepts has the least word; past one that doesn't the search goes on.
use Rattle.std.proofs.Common.{◌≡◌, true, sym, ◌∙◌, arith, true≢false}
use Rattle.pol_scan.specs.Words.{word_at}
use Rattle.pol_scan.proofs.Lists.{length-zip}
use Rattle.pol_scan.proofs.Finding.{led_at}
use Rattle.pol_scan.proofs.Seeking.{least_new, seeks_next, seeks_next_row}
use Rattle.pol_scan.proofs.searching.seek_in_row.Goals as goal
use Rattle.pol_scan.proofs.searching.seek_in_row.Goals.{else-is_new-via-then-is_new+else-accepts, else-is_new-via-else-is_new}

pub state-requires : goal.state-requires
state-requires g c =
    let a = c.in_ok-next.ensures.advances in
    omega (arith, length-zip _ _ _ a.found.led, a.cell.within)

pub accepts-requires : goal.accepts-requires
accepts-requires g c = (
  word_at c.follow.new.found.words c.in_ok-next.next,
  led_at _ _ _ (g.met.A.Machine.tells c.follow.new.machine) _ _ c.in_ok-next.ensures.advances.found c.in_ok-next.next c.state.result.now c.state.ensures,
)

pub returns-then-accepts-clause-least : goal.returns-then-accepts-clause-least
returns-then-accepts-clause-least g c =
    let now = c.follow.new.machine in
    let before = c.columns.machine in
    let a = c.in_ok-next.ensures.advances in
    let keeps = g.met.A.Machine.keeps before now c.in_ok-next.ensures.grows in
    let there = led_at _ _ _ (g.met.A.Machine.tells now) _ _ a.found c.in_ok-next.next c.state.result.now c.state.ensures in
    least_new _ _ _ _ keeps (g.A.Acceptor.accepted before) _ (g.met.A.Acceptor.stays before now c.in_ok-next.ensures.grows) _ _ _ _ _ _ _ _
    c.columns.invariant.seeks a (g.met.A.Acceptor.respects before) c.if-is_new.true c.columns.invariant.number ((c.accepts.ensures (word_at c.follow.new.found.words c.in_ok-next.next) there).0 c.if-accepts.true)

pub returns-then-accepts-clause-grows : goal.returns-then-accepts-clause-grows
returns-then-accepts-clause-grows g c = g.met.A.Machine.transitive c.args.machine.now c.columns.machine c.follow.new.machine c.columns.invariant.grows c.in_ok-next.ensures.grows

pub columns-preserved : goal.columns-preserved
columns-preserved g c =
    let now = c.follow.new.machine in
    let before = c.columns.machine in
    let a = c.in_ok-next.ensures.advances in
    let keeps = g.met.A.Machine.keeps before now c.in_ok-next.ensures.grows in
    let not_new : c.in_ok-next.is_new ≡ true → ¬ (g.A.Acceptor.accepted now (word_at c.follow.new.found.words c.in_ok-next.next)) =
    elim c.else-is_new.branch [
      | else-is_new-via-then-is_new+else-accepts w ↦ λ t yields.
          let there = led_at _ _ _ (g.met.A.Machine.tells now) _ _ a.found c.in_ok-next.next w.state.result.now w.state.ensures in
          let yes_it = (w.accepts.ensures (word_at c.follow.new.found.words c.in_ok-next.next) there).1 yields in
          absurd (true≢false (sym yes_it ∙ w.if-accepts.false))
      | else-is_new-via-else-is_new w ↦ λ t yields. absurd (true≢false (sym t ∙ w.if-is_new.false))
    ] in
    record {
      number = a.cell.from;
      width = c.columns.invariant.width ∙ sym keeps.columns;
      seeks = seeks_next _ _ _ _ keeps (g.A.Acceptor.accepted before) _ (g.met.A.Acceptor.stays before now c.in_ok-next.ensures.grows) _ _ _ _ _ _ _ _
          c.columns.invariant.seeks a c.columns.invariant.number not_new;
      grows = g.met.A.Machine.transitive c.args.machine.now before now c.columns.invariant.grows c.in_ok-next.ensures.grows;
    }

pub returns-clause-none : goal.returns-clause-none
returns-clause-none g c =
    let end : c.columns.column ≡ (g.A.Machine.congruence c.columns.machine).width = omega (arith, c.columns.invariant.width) in
    seeks_next_row _ _ _ (g.met.A.Acceptor.respects c.columns.machine) _ _ c.args.number c.columns.column c.columns.invariant.seeks c.columns.invariant.number end
