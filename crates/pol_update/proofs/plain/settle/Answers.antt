use Rattle.std.proofs.Common.{◌∙◌, ◌+◌, true≢false, List, drop, sym, subst}
use Rattle.pol_text.specs.declared.subject.Subject.{Subject}
use Rattle.pol_update.specs.Planning.{IsUnderWay, IsNewThere, IsSet}
use Rattle.pol_update.proofs.Phases.{item_left, set_there, set_within, set_next, set_passed}
use Rattle.pol_update.proofs.plain.settle.Goals as goal
use Rattle.pol_update.proofs.plain.settle.Goals.{then-not-is_alike+in_ok-settle, else-not-is_alike}

pub settle-requires-clause-there : goal.settle-requires-clause-there
settle-requires-clause-there c =
    let x = c.subject-item.result in
    let rest = drop (c.subjects.subject-index + 1) c.args.new.now in
    let item = item_left c.subjects.subject-index c.args.new.now c.subjects-subject-items.result.now x c.subjects-subject-items.ensures.subjects c.subjects-test.true c.subject-item.is in
    let way = subst (λ (r : List Subject). IsUnderWay c.args.old.now c.args.new.now (IsNewThere c.args.old.now c.args.new.now) (IsSet c.args.new.now) r c.args.new.now c.subjects.plan) item c.subjects.invariant in
    set_there c.args.old.now c.args.new.now c.subjects.plan x rest way.left (way.kept _)

pub settle-requires-clause-within : goal.settle-requires-clause-within
settle-requires-clause-within c =
    let x = c.subject-item.result in
    let rest = drop (c.subjects.subject-index + 1) c.args.new.now in
    let item = item_left c.subjects.subject-index c.args.new.now c.subjects-subject-items.result.now x c.subjects-subject-items.ensures.subjects c.subjects-test.true c.subject-item.is in
    let way = subst (λ (r : List Subject). IsUnderWay c.args.old.now c.args.new.now (IsNewThere c.args.old.now c.args.new.now) (IsSet c.args.new.now) r c.args.new.now c.subjects.plan) item c.subjects.invariant in
    set_within c.args.old.now c.args.new.now c.subjects.plan x rest way.left c.subjects-subject-items.ensures.well_formed way.kept

pub subjects-preserved : goal.subjects-preserved
subjects-preserved c =
    let x = c.subject-item.result in
    let rest = drop (c.subjects.subject-index + 1) c.args.new.now in
    let item = item_left c.subjects.subject-index c.args.new.now c.subjects-subject-items.result.now x c.subjects-subject-items.ensures.subjects c.subjects-test.true c.subject-item.is in
    let way = subst (λ (r : List Subject). IsUnderWay c.args.old.now c.args.new.now (IsNewThere c.args.old.now c.args.new.now) (IsSet c.args.new.now) r c.args.new.now c.subjects.plan) item c.subjects.invariant in
    elim c.if-not-is_alike.branch [
      | then-not-is_alike+in_ok-settle w ↦ rw w.plan-is (set_next c.args.old.now c.args.new.now x rest c.id.result c.subjects.plan w.settle.new.self c.id.ensures way
          (λ alike. true≢false (sym (c.is_alike.ensures.alike.1 alike) ∙ w.if-not-is_alike.true)) w.in_ok-settle.ensures)
      | else-not-is_alike w ↦ rw w.plan-is (set_passed c.args.old.now c.args.new.now x rest c.id.result c.subjects.plan c.id.ensures way (c.is_alike.ensures.alike.0 w.if-not-is_alike.false))
    ]
