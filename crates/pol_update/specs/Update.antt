-- Which edits make one policy of another, whatever the order of the subjects.
use Rattle.std.specs.Prelude.{◌≡◌, ◌≢◌, List, [], ◌∷◌, Bool, false, Ok}
use Rattle.std.specs.Option.{option_map_or}
use Rattle.pol_names.specs.SubjectId.{group_id, user_id}
use Rattle.pol_names.specs.declared.subject_id.SubjectId.{SubjectId}
use Rattle.pol_text.specs.declared.subject.Subject.{Subject}
use Rattle.pol_text.specs.Policy.{WellFormed, id_of, find_subject}
use Rattle.pol_text.specs.Same.{same_subject}
use Rattle.pol_edit.specs.declared.edit.Edit.{Edit}
use Rattle.pol_edit.specs.declared.edit.Edit.TheVariants.{AddGroup, AddUser, Remove, SetParent}
use Rattle.pol_edit.specs.declared.edit.Edit.TheVariants.{SetLogin, SetEnable, SetPriv, InsertRule}
use Rattle.pol_edit.specs.declared.edit.Edit.TheVariants.{SetHash, AddService, ClearService}
use Rattle.pol_edit.specs.declared.edit.Edit.TheVariants.{RemoveRule, MoveRule}
use Rattle.pol_edit.specs.Applying.{applied}
use Rattle.pol_edit.specs.Batches.{applied_all}

-- both policies have the subject alike, with the same parent, secrets, level, services and rules,
-- or neither has it
abbrev pub IsAlike : List Subject → List Subject → SubjectId → Type 0
IsAlike one other id = find_subject id one ≡ find_subject id other

-- whoever is in one of the policies is in both, and alike
abbrev pub HaveSame : List Subject → List Subject → Type 0
HaveSame one other = (id : SubjectId) → IsAlike one other id

-- ---- edits one after another

-- the subject that an edit is of
abbrev pub subject_of : Edit → SubjectId
subject_of (AddGroup name parent) = group_id name
subject_of (AddUser name parent) = user_id name
subject_of (Remove subject) = subject
subject_of (SetParent subject parent) = subject
subject_of (SetLogin user secret) = user_id user
subject_of (SetEnable user secret) = user_id user
subject_of (SetHash user credential hash) = user_id user
subject_of (SetPriv subject level) = subject
subject_of (AddService subject said) = subject
subject_of (ClearService subject service attribute) = subject
subject_of (InsertRule subject at verdict pattern) = subject
subject_of (RemoveRule subject at) = subject
subject_of (MoveRule subject from to) = subject

-- on the way from the old policy to the new one this policy takes the edit, which changes it, and
-- is of a subject that the two don't have alike
pub record IsStep (old new policy : List Subject) (edit : Edit) (next : List Subject) : Type 0 where
  pub well_formed : WellFormed policy
  pub makes : applied policy edit ≡ Ok next
  pub changes : next ≢ policy
  pub of_differing : ¬ IsAlike old new (subject_of edit)

-- the edits are such steps, from this policy to that one
abbrev pub AreSteps : List Subject → List Subject → List Subject → List Edit → List Subject → Type 0
AreSteps old new policy [] made = policy ≡ made
AreSteps old new policy (edit ∷ edits) made =
    (next : List Subject) × IsStep old new policy edit next × AreSteps old new next edits made

-- the edits make of the old policy one that has the same as the new one; each of them changes
-- something, and none is of a subject that both policies have alike
pub record Updates (old : List Subject) (edits : List Edit) (new : List Subject) : Type 0 where
  pub made : List Subject
  pub makes : applied_all old edits ≡ Ok made
  pub steps : AreSteps old new old edits made
  pub same : HaveSame made new

-- ---- the test of the code

-- whether the policy has this subject, with all that it has
abbrev pub has_subject : List Subject → Subject → Bool
has_subject policy subject =
    option_map_or (λ present. same_subject present subject)
    (find_subject (id_of subject) policy) false
