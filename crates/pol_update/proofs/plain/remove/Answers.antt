use Rattle.std.proofs.Common.{◌+◌, List, drop, subst}
use Rattle.pol_text.specs.declared.subject.Subject.{Subject}
use Rattle.pol_text.specs.Policy.{find_subject}
use Rattle.pol_update.specs.Planning.{IsUnderWay, IsOldOut, IsGone}
use Rattle.pol_update.proofs.Phases.{item_left, unused, gone_next, gone_passed, none_found, some_found, not_none}
use Rattle.pol_update.proofs.plain.remove.Goals as goal
use Rattle.pol_update.proofs.plain.remove.Goals.{then-is_none+in_ok-remove, else-is_none}

pub remove-requires : goal.remove-requires
remove-requires c = record {
  unused = λ made.
      unused c.args.old.now c.args.new.now c.subjects.plan c.id-id.result c.find.ensures.well_formed made c.subjects.invariant.kept
      (none_found c.find.result (find_subject c.id-id.result c.args.new.now) c.is_none.result c.find.ensures.found c.is_none.ensures c.if-is_none.true);
}

pub subjects-preserved : goal.subjects-preserved
subjects-preserved c =
    let x = c.subject-item.result in
    let rest = drop (c.subjects.subject-index + 1) c.args.old.now in
    let item = item_left c.subjects.subject-index c.args.old.now c.subjects-subject-items.result.now x c.subjects-subject-items.ensures.subjects c.subjects-test.true c.subject-item.is in
    let way = subst (λ (r : List Subject). IsUnderWay c.args.old.now c.args.new.now (IsOldOut c.args.old.now c.args.new.now) (IsGone c.args.new.now) r c.args.old.now c.subjects.plan) item c.subjects.invariant in
    let looked = find_subject c.id-id.result c.args.new.now in
    elim c.if-is_none.branch [
      | then-is_none+in_ok-remove w ↦ rw w.plan-is (gone_next c.args.old.now c.args.new.now x rest c.id-id.result c.subjects.plan w.remove.new.self c.id-id.ensures way
          (none_found c.find.result looked c.is_none.result c.find.ensures.found c.is_none.ensures w.if-is_none.true) w.in_ok-remove.ensures)
      | else-is_none w ↦ rw w.plan-is (gone_passed c.args.old.now c.args.new.now x rest c.id-id.result c.subjects.plan c.id-id.ensures way
          (not_none looked (some_found c.find.result looked c.is_none.result c.find.ensures.found c.is_none.ensures w.if-is_none.false)))
    ]
