use Rattle.std.proofs.Common.{◌≡◌, ◌<◌, ℕ, Some, true, take, slice_get, is_some, IsTrue}
use Rattle.pol_text.specs.declared.subject.Subject.{Subject}
use Rattle.pol_meaning.specs.Sizes.{AreSmall}
use Rattle.pol_live.specs.Kept.{AreParts, Grows, is_keeper, slot}
use Rattle.pol_live.specs.Counting.{Counts, states_of}
use Rattle.pol_live.proofs.building.complete.Given as goal

abbrev pub invariant-loop-index : goal.invariant-loop-index
invariant-loop-index l = record {
  right : AreParts l.policy l.parts;
  grows : Grows l.fn.parts l.parts;
  there : (k : ℕ) → k < l.index → IsTrue (is_some (slot l.parts.wholes k));
  keepers : (k : ℕ) (subject : Subject) → k < l.index → slice_get l.policy k ≡ Some subject → is_keeper subject ≡ true → IsTrue (is_some (slot l.parts.owns k));
  small : AreSmall l.policy (take l.index l.policy);
  counts : Counts l.fn.meter.total l.meter.total (states_of l.policy l.fn.parts) (states_of l.policy l.parts);
}
