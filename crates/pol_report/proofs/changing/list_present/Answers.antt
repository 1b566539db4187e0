use Rattle.std.proofs.Common.{◌≡◌, ◌<◌, ℕ, List, length, get_or, sym, subst, ◌∙◌, append-nil}
use Rattle.pol_names.specs.SubjectId.{same_kind}
use Rattle.pol_names.specs.declared.subject_id.Kind.TheVariants.{User}
use Rattle.pol_meaning.specs.LineChanges.{ChangesOf}
use Rattle.pol_report.proofs.ListFacts.{step_told, step_passed}
use Rattle.pol_report.proofs.changing.list_present.Goals as goal
use Rattle.pol_report.proofs.changing.list_present.Goals.{then-is_user+in_ok-list_user, else-is_user}

pub loop-subject-init : goal.loop-subject-init
loop-subject-init c =
    let live = c.args.policies.now.before in
    let after = c.args.policies.now.after in
    record {
      so_far = λ users h. subst (λ (us : List (List ℕ)). ChangesOf live after us c.args.changes.now) (sym (append-nil users)) h;
      known = c.requires.known;
      same = c.subjects-subject-items.ensures.subjects ∙ c.new_policy.ensures;
    }

pub loop-subject-preserved : goal.loop-subject-preserved
loop-subject-preserved c =
    let subjects = c.args.policies.now.after in
    let i = c.loop-subject.subject-index in
    let subject = c.subject-item.result in
    let at : get_or subjects i subject ≡ subject = rw (← c.loop-subject.invariant.same) (sym c.subject-item.is) in
    let lt : i < length subjects = rw (← c.loop-subject.invariant.same) c.loop-subject-test.true in
    record {
      so_far = λ users h. elim c.if-is_user.branch [
        | then-is_user+in_ok-list_user w ↦ step_told c.args.policies.now.before c.args.policies.now.after (λ subject. same_kind subject.kind User) subjects i subject users c.loop-subject.changes c.if-is_user.changes lt at
            (sym c.is_user.ensures ∙ w.if-is_user.true) (rw w.changes-is w.in_ok-list_user.ensures.listed) (c.loop-subject.invariant.so_far users h)
        | else-is_user w ↦ step_passed c.args.policies.now.before c.args.policies.now.after (λ subject. same_kind subject.kind User) subjects i subject users c.loop-subject.changes c.if-is_user.changes lt at
            (sym c.is_user.ensures ∙ w.if-is_user.false) w.changes-is (c.loop-subject.invariant.so_far users h)
      ];
      known = elim c.if-is_user.branch [
        | then-is_user+in_ok-list_user w ↦ rw w.known-is w.in_ok-list_user.ensures.known
        | else-is_user w ↦ rw w.known-is c.loop-subject.invariant.known
      ];
      same = c.loop-subject.invariant.same;
    }
