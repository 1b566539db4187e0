use Rattle.std.proofs.Common.{◌≡◌, ◌+◌, drop}
use Rattle.pol_text.specs.Policy.{WellFormed}
use Rattle.pol_edit.specs.Batches.{applied_from, applied_all}
use Rattle.pol_edit.proofs.batching.edited.Given as goal

-- what the edits that are left make of the policy so far is what all make of the first
abbrev pub invariant-edits : goal.invariant-edits
invariant-edits l = record {
  left : applied_from (l.done + 1) (drop l.done l.edits) l.edited ≡ applied_all l.policy l.edits;
  well_formed : WellFormed l.edited;
}
