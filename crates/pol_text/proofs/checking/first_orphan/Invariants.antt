use Rattle.std.proofs.Common.{◌≡◌, drop}
use Rattle.pol_text.specs.Draft.{first_failing}
use Rattle.pol_text.specs.Policy.{has_parent}
use Rattle.pol_text.proofs.checking.first_orphan.Given as goal

abbrev pub invariant-subjects : goal.invariant-subjects
invariant-subjects l = first_failing l.i (has_parent l.subjects) (drop l.i l.subjects) ≡ first_failing 0 (has_parent l.subjects) l.subjects
