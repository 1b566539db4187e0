use Rattle.std.proofs.Common.{◌≡◌, drop}
use Rattle.pol_text.specs.Draft.{first_failing}
use Rattle.pol_text.specs.Policy.{ends_within}
use Rattle.pol_text.proofs.checking.first_longer.Given as goal

abbrev pub invariant-subjects : goal.invariant-subjects
invariant-subjects l = first_failing l.i (ends_within l.most l.subjects) (drop l.i l.subjects) ≡ first_failing 0 (ends_within l.most l.subjects) l.subjects
