use Rattle.std.proofs.Common.{◌≡◌, ◌<◌, ℕ, Some, length, slice_get}
use Rattle.pol_text.specs.declared.subject.Subject.{Subject}
use Rattle.pol_live.specs.Kept.{slot}
use Rattle.pol_live.specs.Renewing.{IsKept, renews_own}
use Rattle.pol_live.proofs.reusing.kept_owns.Given as goal

abbrev pub invariant-loop-subject : goal.invariant-loop-subject
invariant-loop-subject l = record {
  many : length l.kept ≡ l.subject-index;
  each : (k : ℕ) (subject : Subject) → k < l.subject-index → slice_get l.after k ≡ Some subject
      → IsKept (renews_own l.touched subject) l.before l.owns subject (slot l.kept k);
  same : l.subject-items ≡ l.after;
}
