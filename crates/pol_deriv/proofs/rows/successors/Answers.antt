use Rattle.std.proofs.lemmas.List.{take_all}
use Rattle.pol_deriv.proofs.RowFacts.{reached_more}
use Rattle.pol_deriv.proofs.rows.successors.Goals as goal
use Rattle.pol_deriv.proofs.rows.successors.Goals.{then-holds+in_ok-push, else-holds}

pub loop-monomial-preserved : goal.loop-monomial-preserved
loop-monomial-preserved c =
    let l = c.loop-monomial in
    let more = reached_more c.args.symbol c.args.form.now l.monomial-index c.monomial-item.result c.loop-monomial-test.true c.monomial-item.is in
    elim c.if-holds.branch [
      | then-holds+in_ok-push w ↦ rw (w.numbers-is, more, ← c.holds.ensures, w.if-holds.true, ← l.invariant) w.in_ok-push.ensures.items
      | else-holds w ↦ rw (w.numbers-is, more, ← c.holds.ensures, w.if-holds.false) l.invariant
    ]

pub returns : goal.returns
returns c = rw (take_all c.loop-monomial.monomial-index c.args.form.now c.loop-monomial-test.false) at c.loop-monomial.invariant
