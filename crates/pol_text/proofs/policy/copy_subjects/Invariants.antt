use Rattle.std.proofs.Common.{◌≡◌, take}
use Rattle.pol_text.proofs.policy.copy_subjects.Given as goal

abbrev pub invariant-loop-subject : goal.invariant-loop-subject
invariant-loop-subject l = l.copies ≡ take l.subject-index l.subjects
