use Rattle.std.proofs.Common.{◌≡◌, ◌∷◌, take}
use Rattle.pol_text.specs.Text.{first_line, policy_lines, text_of_lines}
use Rattle.pol_text.proofs.policy.Policy.print.Given as goal

abbrev pub invariant-subjects : goal.invariant-subjects
invariant-subjects l = l.text ≡ text_of_lines (first_line l.all ∷ policy_lines (take l.subject-index l.all))
