-- What edits make of a policy together: the new policy, or the first refusal.
use Rattle.std.specs.Prelude.{◌≡◌, ℕ, suc, List, [], ◌∷◌, Bool, ◌&&◌, Result, Ok, Err}
use Rattle.std.specs.Prelude.{nat_eq}
use Rattle.pol_text.specs.declared.subject.Subject.{Subject}
use Rattle.pol_edit.specs.Applying.{applied, is_memory}
use Rattle.pol_edit.specs.declared.edit.Edit.{Edit}
use Rattle.pol_edit.specs.declared.fault.EditFault.{EditFault}
use Rattle.pol_edit.specs.declared.fault.EditFault.TheVariants.{Memory, NoSuch}
use Rattle.pol_edit.specs.declared.batching.BatchFault.{BatchFault}

-- a refusal of no single edit
abbrev pub of_all : EditFault → BatchFault
of_all fault = record { at = 0; fault = fault }

-- the edit of this number is refused
abbrev pub of_edit : ℕ → EditFault → BatchFault
of_edit at fault = record { at = at; fault = fault }

-- what the edit of this number makes is handed on, if it isn't refused
abbrev pub then : ℕ → Result (List Subject) EditFault
    → (List Subject → Result (List Subject) BatchFault) → Result (List Subject) BatchFault
then at (Ok policy) rest = rest policy
then at (Err fault) rest = Err (of_edit at fault)

-- the policy that these edits make, one after another, or the first refusal. The first of
-- them has this number
abbrev pub applied_from : ℕ → List Edit → List Subject → Result (List Subject) BatchFault
applied_from at [] policy = Ok policy
applied_from at (edit ∷ edits) policy =
    then at (applied policy edit) (applied_from (suc at) edits)

-- they are counted from 1
abbrev pub applied_all : List Subject → List Edit → Result (List Subject) BatchFault
applied_all policy edits = applied_from 1 edits policy

-- the first of them is refused as NoSuch
abbrev pub IsFirstMissing : List Subject → List Edit → Type 0
IsFirstMissing policy [] = ⊥
IsFirstMissing policy (edit ∷ edits) = applied policy edit ≡ Err NoSuch

-- ---- a lack of memory

-- it is reported for no single edit, wherever memory ran out
abbrev pub ran_out : BatchFault → Bool
ran_out fault = nat_eq fault.at 0 && is_memory fault.fault

abbrev pub refused_at : ℕ → EditFault → BatchFault
refused_at at Memory = of_all Memory
refused_at at fault = of_edit at fault
