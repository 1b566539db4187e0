use Rattle.std.proofs.Common.{◌≡◌, ◌<◌, length, get_or, sym, ◌∙◌}
use Rattle.pol_meaning.specs.LineChanges.{is_alone}
use Rattle.pol_report.proofs.ListFacts.{step_told, step_passed}
use Rattle.pol_report.proofs.changing.list_gone.Goals as goal
use Rattle.pol_report.proofs.changing.list_gone.Goals.{then-is_alone+in_ok-list_searched, else-is_alone}

pub loop-subject-preserved : goal.loop-subject-preserved
loop-subject-preserved c =
    let subjects = c.args.policies.now.before in
    let i = c.loop-subject.subject-index in
    let subject = c.subject-item.result in
    let at : get_or subjects i subject ≡ subject = rw (← c.loop-subject.invariant.same) (sym c.subject-item.is) in
    let lt : i < length subjects = rw (← c.loop-subject.invariant.same) c.loop-subject-test.true in
    let alone : c.is_alone.result ≡ is_alone c.args.policies.now.after c.subject-item.result = rw (← c.new_policy.ensures) c.is_alone.ensures in
    record {
      so_far = λ users h. elim c.if-is_alone.branch [
        | then-is_alone+in_ok-list_searched w ↦ step_told c.args.policies.now.before c.args.policies.now.after (is_alone c.args.policies.now.after) subjects i subject users c.loop-subject.changes c.if-is_alone.changes lt at
            (sym alone ∙ w.if-is_alone.true) (rw w.changes-is w.in_ok-list_searched.ensures.listed) (c.loop-subject.invariant.so_far users h)
        | else-is_alone w ↦ step_passed c.args.policies.now.before c.args.policies.now.after (is_alone c.args.policies.now.after) subjects i subject users c.loop-subject.changes c.if-is_alone.changes lt at
            (sym alone ∙ w.if-is_alone.false) w.changes-is (c.loop-subject.invariant.so_far users h)
      ];
      known = elim c.if-is_alone.branch [
        | then-is_alone+in_ok-list_searched w ↦ rw w.known-is w.in_ok-list_searched.ensures.known
        | else-is_alone w ↦ rw w.known-is c.loop-subject.invariant.known
      ];
      same = c.loop-subject.invariant.same;
    }
