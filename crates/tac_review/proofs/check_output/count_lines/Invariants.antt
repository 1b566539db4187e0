use Rattle.std.proofs.Common.{◌≡◌, ◌≤◌, ◌*◌, take, length}
use Rattle.std.specs.List.{sum_by}
use Rattle.pol_text.specs.Policy.{max_services}
use Rattle.tac_review.proofs.check_output.count_lines.Given as goal

-- the lines of the first subjects, each of which has few
abbrev pub invariant-subjects : goal.invariant-subjects
invariant-subjects l = record {
  so_far : l.lines ≡ sum_by (λ subject. length subject.services) (take l.subject-index l.policy);
  few : l.lines ≤ max_services * l.subject-index;
}
