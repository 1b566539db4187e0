use Rattle.std.proofs.Common.{◌+◌, List, drop, subst}
use Rattle.pol_text.specs.declared.subject.Subject.{Subject}
use Rattle.pol_text.specs.Policy.{find_subject}
use Rattle.pol_update.specs.Planning.{IsUnderWay, IsNew, IsThere}
use Rattle.pol_update.proofs.Phases.{item_left, new_begins, room, new_next, new_passed, none_found, some_found}
use Rattle.pol_update.proofs.plain.add.Goals as goal
use Rattle.pol_update.proofs.plain.add.Goals.{then-is_none+in_ok-add_bare, else-is_none}

pub subjects-init : goal.subjects-init
subjects-init c = new_begins c.args.old.now c.args.new.now c.args.plan.now c.subjects-subject-items.ensures.well_formed.distinct c.requires

pub add_bare-requires-clause-room : goal.add_bare-requires-clause-room
add_bare-requires-clause-room c =
    let x = c.subject-item.result in
    let rest = drop (c.subjects.subject-index + 1) c.args.new.now in
    let item = item_left c.subjects.subject-index c.args.new.now c.subjects-subject-items.result.now x c.subjects-subject-items.ensures.subjects c.subjects-test.true c.subject-item.is in
    let way = subst (λ (r : List Subject). IsUnderWay c.args.old.now c.args.new.now (IsNew c.args.old.now c.args.new.now) (IsThere c.args.new.now) r c.args.new.now c.subjects.plan) item c.subjects.invariant in
    let found = rw (c.made.ensures, c.id.ensures) at c.find.ensures.found in
    room c.args.old.now c.args.new.now c.subjects.plan x rest way.left c.subjects-subject-items.ensures.well_formed (rw c.made.ensures at c.find.ensures.well_formed) way.kept
    (none_found c.find.result _ c.is_none.result found c.is_none.ensures c.if-is_none.true)

pub subjects-preserved : goal.subjects-preserved
subjects-preserved c =
    let x = c.subject-item.result in
    let rest = drop (c.subjects.subject-index + 1) c.args.new.now in
    let item = item_left c.subjects.subject-index c.args.new.now c.subjects-subject-items.result.now x c.subjects-subject-items.ensures.subjects c.subjects-test.true c.subject-item.is in
    let way = subst (λ (r : List Subject). IsUnderWay c.args.old.now c.args.new.now (IsNew c.args.old.now c.args.new.now) (IsThere c.args.new.now) r c.args.new.now c.subjects.plan) item c.subjects.invariant in
    let looked = find_subject c.id.result c.subjects.plan.made in
    let found = rw c.made.ensures at c.find.ensures.found in
    elim c.if-is_none.branch [
      | then-is_none+in_ok-add_bare w ↦ rw w.plan-is (new_next c.args.old.now c.args.new.now x rest c.id.result c.subjects.plan w.add_bare.new.self c.id.ensures way
          (none_found c.find.result looked c.is_none.result found c.is_none.ensures w.if-is_none.true) w.in_ok-add_bare.ensures)
      | else-is_none w ↦ rw w.plan-is (new_passed c.args.old.now c.args.new.now x rest c.id.result c.subjects.plan c.id.ensures way
          (some_found c.find.result looked c.is_none.result found c.is_none.ensures w.if-is_none.false))
    ]
