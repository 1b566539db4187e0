-- Why a policy isn't built, and what edits that make such a policy are told.
use Rattle.std.specs.Prelude.{◌≡◌, ℕ, List, ◌++◌, slice_get, Some, codes, Bool, true, false}
use Rattle.pol_names.specs.SubjectId.{subject_text}
use Rattle.pol_text.specs.declared.subject.Subject.{Subject}
use Rattle.pol_edit.specs.declared.fault.EditFault.{EditFault}
use Rattle.pol_edit.specs.declared.fault.EditFault.TheVariants as edits
use Rattle.pol_meaning.specs.Sizes.{IsLarge, IsFirstLarge}
use Rattle.pol_live.specs.declared.fault.BuildFault.{BuildFault}
use Rattle.pol_live.specs.declared.fault.BuildFault.TheVariants.{TooManyStates, Memory}

-- the subject at this place is large
abbrev pub IsLargeAt : List Subject → ℕ → Type 0
IsLargeAt policy at =
    (subject : Subject) × (slice_get policy at ≡ Some subject) × IsLarge policy subject

-- a policy that may not stand is refused for its first large subject, and for nothing else
abbrev pub IsRefusedFor : List Subject → BuildFault → Type 0
IsRefusedFor policy (TooManyStates subject) = IsFirstLarge policy policy subject
IsRefusedFor policy Memory = ⊥

-- an edit that makes it is refused for the same
abbrev pub edit_fault : BuildFault → EditFault
edit_fault (TooManyStates subject) = edits.TooManyStates subject
edit_fault Memory = edits.Memory

-- how it is printed
abbrev pub build_fault_text : BuildFault → List ℕ
build_fault_text (TooManyStates subject) = codes "TooManyStates " ++ subject_text subject
build_fault_text Memory = codes "Memory"

-- whether the fault says that memory ran out
abbrev pub is_memory : BuildFault → Bool
is_memory (TooManyStates subject) = false
is_memory Memory = true
