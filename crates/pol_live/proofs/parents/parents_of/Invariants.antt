use Rattle.std.proofs.Common.{◌≡◌, ◌<◌, ℕ, Some, length, slice_get}
use Rattle.std.specs.Option.{option_and_then}
use Rattle.pol_text.specs.declared.subject.Subject.{Subject}
use Rattle.pol_text.specs.Policy.{parent_of}
use Rattle.pol_live.specs.Kept.{slot}
use Rattle.pol_live.proofs.parents.parents_of.Given as goal

abbrev pub invariant-loop-subject : goal.invariant-loop-subject
invariant-loop-subject l = record {
  many : length l.parents ≡ l.subject-index;
  each : (k : ℕ) (subject : Subject) → k < l.subject-index → slice_get l.policy k ≡ Some subject
      → option_and_then (slice_get l.policy) (slot l.parents k) ≡ parent_of l.policy subject;
  same : l.subject-items ≡ l.policy;
}
