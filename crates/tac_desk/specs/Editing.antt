-- What edits at the desk are answered, and what they leave; and so another policy that takes the
-- place of the present one.
use Rattle.std.specs.Prelude.{◌≡◌, List, Result, Ok, Err}
use Rattle.pol_text.specs.declared.subject.Subject.{Subject}
use Rattle.pol_edit.specs.Applying.{applied}
use Rattle.pol_edit.specs.Batches.{of_all, applied_all}
use Rattle.pol_edit.specs.declared.edit.Edit.{Edit}
use Rattle.pol_edit.specs.declared.fault.EditFault.{EditFault}
use Rattle.pol_edit.specs.declared.batching.BatchFault.{BatchFault}
use Rattle.pol_meaning.specs.Sizes.{IsSmall, IsRefusedAs}
use Rattle.pol_meaning.specs.Changes.{AreChanges}
use Rattle.pol_meaning.specs.declared.Changes.{Changes}
use Rattle.tac_desk.specs.Meaning.{Meaning, with_policy}

-- ---- one edit, or several: they differ in what a refusal is

-- this policy takes the place of the present one: where it may stand, the answer is what
-- changes for users; else the first subject that is too large is named, and nothing changes
abbrev pub Takes : {F : Type 0} → (EditFault → F) → Meaning → List Subject
    → Result Changes F → Meaning → Type 0
Takes as_refusal before policy (Ok changes) after =
    IsSmall policy × AreChanges before.policy policy changes × (after ≡ with_policy policy before)
Takes as_refusal before policy (Err fault) after =
    IsRefusedAs as_refusal policy fault × (after ≡ before)

-- refused edits change nothing
abbrev pub Refuses : {F : Type 0} → Meaning → F → Result Changes F → Meaning → Type 0
Refuses before fault answer after = (answer ≡ Err fault) × (after ≡ before)

abbrev pub EditsTo : {F : Type 0} → (EditFault → F) → Meaning → Result (List Subject) F
    → Result Changes F → Meaning → Type 0
EditsTo as_refusal before (Ok policy) answer after = Takes as_refusal before policy answer after
EditsTo as_refusal before (Err fault) answer after = Refuses before fault answer after

-- ---- one edit

-- the desk answers the edit so, and represents this from then on; the edit's own
-- refusals come first
abbrev pub Edits : Meaning → Edit → Result Changes EditFault → Meaning → Type 0
Edits before edit answer after =
    EditsTo (λ fault. fault) before (applied before.policy edit) answer after

-- no other answer is right, and it leaves nothing else
abbrev pub IsOnly : Meaning → Edit → Result Changes EditFault → Meaning → Type 0
IsOnly before edit answer after =
    (other : Result Changes EditFault) (later : Meaning) → Edits before edit other later
    → (answer ≡ other) × (after ≡ later)

-- ---- several edits, all or none

-- the desk answers the edits so, and represents this from then on; the refusals of single
-- edits come first, and the size is judged on the policy that all of them make
abbrev pub EditsAll : Meaning → List Edit → Result Changes BatchFault → Meaning → Type 0
EditsAll before edits answer after =
    EditsTo of_all before (applied_all before.policy edits) answer after

-- no other answer is right, and it leaves nothing else
abbrev pub IsOnlyAll : Meaning → List Edit → Result Changes BatchFault → Meaning → Type 0
IsOnlyAll before edits answer after =
    (other : Result Changes BatchFault) (later : Meaning) → EditsAll before edits other later
    → (answer ≡ other) × (after ≡ later)

-- ---- another policy

-- another policy takes the place of the present one, whatever it was, if it may stand; else its
-- first subject that is too large is named, and nothing changes
abbrev pub Loads : Meaning → List Subject → Result Changes EditFault → Meaning → Type 0
Loads before policy answer after = Takes (λ fault. fault) before policy answer after

-- no other answer is right, and it leaves nothing else
abbrev pub IsOnlyLoaded : Meaning → List Subject → Result Changes EditFault → Meaning
    → Type 0
IsOnlyLoaded before policy answer after =
    (other : Result Changes EditFault) (later : Meaning) → Loads before policy other later
    → (answer ≡ other) × (after ≡ later)
