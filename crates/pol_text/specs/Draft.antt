-- A draft that chains are judged of, and what a line's function returned, against what was wanted.
use Rattle.std.specs.Prelude.{◌≡◌, ℕ, ◌+◌, ◌≤◌, Bool, true, List, [], ◌∷◌, length, map, Option}
use Rattle.std.specs.Prelude.{Some, None, Result, Ok, Err, if◌then◌else◌, nat_le}
use Rattle.std.specs.List.{list_all}
use Rattle.pol_text.specs.declared.subject.Subject.{Subject}
use Rattle.pol_text.specs.Policy.{id_of, all_distinct, is_right_subject, max_subjects}
use Rattle.pol_text.specs.Text.{Draft, subjects_of}
use Rattle.pol_text.specs.declared.fault.PolicyRefusal.{PolicyRefusal}
use Rattle.pol_text.specs.declared.fault.PolicyRefusal.TheVariants.{Repeated, Limit}
use Rattle.pol_text.specs.declared.fault.PolicyFault.{PolicyFault}
use Rattle.pol_text.specs.declared.fault.PolicyFault.TheVariants as faults
use Rattle.pol_text.specs.declared.fault.LineFault.{LineFault}
use Rattle.pol_text.specs.declared.fault.LineFault.TheVariants.{Refused, Memory}

-- the fault is the wanted refusal, or memory ran out
abbrev pub LineFails : {Y : Type 0} → LineFault → Result Y PolicyRefusal → Type 0
LineFails Memory wanted = Unit {0}
LineFails (Refused refusal) wanted = wanted ≡ Err refusal

-- the result is the wanted one, unless memory ran out
abbrev pub LineGives : {Y : Type 0} → Result Y LineFault → Result Y PolicyRefusal → Type 0
LineGives (Ok x) wanted = wanted ≡ Ok x
LineGives (Err fault) wanted = LineFails fault wanted

-- what is there now is the wanted one, unless memory ran out
abbrev pub LineMakes : {Y : Type 0} → Result Unit LineFault → Y → Result Y PolicyRefusal → Type 0
LineMakes (Ok made) now wanted = wanted ≡ Ok now
LineMakes (Err fault) now wanted = LineFails fault wanted

-- a line's fault with the line that it is at
abbrev pub at_place : ℕ → LineFault → PolicyFault
at_place line Memory = faults.Memory
at_place line (Refused refusal) = faults.Refused line refusal

-- what a well-formed policy has, but for its chains
pub record RightDraft (draft : Draft) : Type 0 where
  pub few : length draft ≤ max_subjects
  pub distinct : all_distinct (map id_of (subjects_of draft)) ≡ true
  pub right : list_all is_right_subject (subjects_of draft) ≡ true

-- the place of the first subject that fails the test, of subjects whose first has this place
abbrev pub first_failing : ℕ → (Subject → Bool) → List Subject → Option ℕ
first_failing place test [] = None
first_failing place test (subject ∷ rest) =
    if test subject then first_failing (place + 1) test rest else Some place

-- whether a subject may be added after so many; there says that one of these has its kind and name
abbrev pub place_given : Bool → ℕ → Result Unit PolicyRefusal
place_given there count =
    if there then Err Repeated else if nat_le max_subjects count then Err Limit else Ok tt
