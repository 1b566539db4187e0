use Rattle.std.proofs.Common.{◌∙◌, ◌+◌, true≢false, List, drop, sym, subst}
use Rattle.pol_text.specs.declared.subject.Subject.{Subject}
use Rattle.pol_update.specs.Planning.{IsUnderWay, IsOld, IsOut}
use Rattle.pol_update.proofs.Phases.{item_left, out_within, out_next, out_passed}
use Rattle.pol_update.proofs.plain.take_out.Goals as goal
use Rattle.pol_update.proofs.plain.take_out.Goals.{then-not-is_alike+in_ok-put_below, else-not-is_alike}

pub put_below-requires-clause-within : goal.put_below-requires-clause-within
put_below-requires-clause-within c = out_within c.args.old.now c.args.new.now c.subjects.plan c.id-id.result c.is_alike.ensures.well_formed c.subjects.invariant.kept

pub subjects-preserved : goal.subjects-preserved
subjects-preserved c =
    let x = c.subject-item.result in
    let rest = drop (c.subjects.subject-index + 1) c.args.old.now in
    let item = item_left c.subjects.subject-index c.args.old.now c.subjects-subject-items.result.now x c.subjects-subject-items.ensures.subjects c.subjects-test.true c.subject-item.is in
    let way = subst (λ (r : List Subject). IsUnderWay c.args.old.now c.args.new.now (IsOld c.args.old.now c.args.new.now) (IsOut c.args.old.now c.args.new.now) r c.args.old.now c.subjects.plan) item c.subjects.invariant in
    elim c.if-not-is_alike.branch [
      | then-not-is_alike+in_ok-put_below w ↦ rw w.plan-is (out_next c.args.old.now c.args.new.now x rest c.id-id.result c.subjects.plan w.put_below.new.self c.id-id.ensures way
          (λ alike. true≢false (sym (c.is_alike.ensures.alike.1 alike) ∙ w.if-not-is_alike.true)) w.in_ok-put_below.ensures)
      | else-not-is_alike w ↦ rw w.plan-is (out_passed c.args.old.now c.args.new.now x rest c.id-id.result c.subjects.plan c.id-id.ensures way (c.is_alike.ensures.alike.0 w.if-not-is_alike.false))
    ]
