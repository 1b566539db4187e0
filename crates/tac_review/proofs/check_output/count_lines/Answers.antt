use Rattle.std.proofs.Common.{◌≡◌, ◌<◌, length, get_or, ap, ◌∙◌, arith}
use Rattle.std.proofs.lemmas.List.Sums.{sum_by_more}
use Rattle.tac_review.proofs.Counting.{few_lines_at}
use Rattle.tac_review.proofs.check_output.count_lines.Goals as goal

pub overflow_add-lines : goal.overflow_add-lines
overflow_add-lines c =
    let policy = c.args.policy.now in
    let there = c.subjects-subject-items.ensures.well_formed in
    let same = c.subjects-subject-items.ensures.subjects in
    let lt : c.subjects.subject-index < length policy = rw (← same) c.subjects-test.true in
    let item : c.subject-item.result ≡ get_or policy c.subjects.subject-index c.subject-item.result = rw (← same) c.subject-item.is in
    let size : c.len-lines.result ≡ length (get_or policy c.subjects.subject-index c.subject-item.result).services =
    c.len-lines.ensures ∙ ap (λ subject. length subject.services) item in
    let few = few_lines_at policy c.subjects.subject-index c.subject-item.result there.right lt in
    omega (arith, c.subjects.invariant.few, size, few, lt, there.few)

pub subjects-preserved : goal.subjects-preserved
subjects-preserved c =
    let policy = c.args.policy.now in
    let there = c.subjects-subject-items.ensures.well_formed in
    let same = c.subjects-subject-items.ensures.subjects in
    let lt : c.subjects.subject-index < length policy = rw (← same) c.subjects-test.true in
    let item : c.subject-item.result ≡ get_or policy c.subjects.subject-index c.subject-item.result = rw (← same) c.subject-item.is in
    let size : c.len-lines.result ≡ length (get_or policy c.subjects.subject-index c.subject-item.result).services =
    c.len-lines.ensures ∙ ap (λ subject. length subject.services) item in
    let few = few_lines_at policy c.subjects.subject-index c.subject-item.result there.right lt in
    let more = sum_by_more (λ subject. length subject.services) policy c.subjects.subject-index c.subject-item.result lt in
    record {
      so_far = omega (arith, c.subjects.invariant.so_far, size, more);
      few = omega (arith, c.subjects.invariant.few, size, few);
    }
