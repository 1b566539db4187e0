use Rattle.std.proofs.Common.{◌≡◌, ◌≤◌, ◌*◌, take, length}
use Rattle.std.specs.List.{sum_by}
use Rattle.pol_text.specs.Policy.{max_rules}
use Rattle.tac_review.proofs.check_output.count_rules.Given as goal

-- the rules of the first subjects, each of which has few
abbrev pub invariant-subjects : goal.invariant-subjects
invariant-subjects l = record {
  so_far : l.rules ≡ sum_by (λ subject. length subject.rules) (take l.subject-index l.policy);
  few : l.rules ≤ max_rules * l.subject-index;
}
