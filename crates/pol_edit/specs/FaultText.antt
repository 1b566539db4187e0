-- How a refusal is printed.
use Rattle.std.specs.Prelude.{ℕ, List, ◌++◌, codes, nat_eq, if◌then◌else◌}
use Rattle.std.specs.Fmt.{decimal}
use Rattle.pol_pattern.specs.FaultText.{fault_text as pattern_fault_text}
use Rattle.pol_names.specs.SubjectId.{subject_text}
use Rattle.pol_edit.specs.declared.batching.BatchFault.{BatchFault}
use Rattle.pol_edit.specs.declared.fault.EditFault.{EditFault}
use Rattle.pol_edit.specs.declared.fault.EditFault.TheVariants.{BadEdit, NoSuch, Exists, InUse}
use Rattle.pol_edit.specs.declared.fault.EditFault.TheVariants.{Cycle, TooDeep, BadIndex}
use Rattle.pol_edit.specs.declared.fault.EditFault.TheVariants.{BadPattern, BadValue, Limit}
use Rattle.pol_edit.specs.declared.fault.EditFault.TheVariants.{TooManyStates, Memory}

-- the kind's number and name; a bad pattern adds what is wrong with it, too many states whose
abbrev pub fault_text : EditFault → List ℕ
fault_text BadEdit = codes "1 BadEdit"
fault_text NoSuch = codes "2 NoSuch"
fault_text Exists = codes "3 Exists"
fault_text InUse = codes "4 InUse"
fault_text Cycle = codes "5 Cycle"
fault_text TooDeep = codes "6 TooDeep"
fault_text BadIndex = codes "7 BadIndex"
fault_text (BadPattern fault) = codes "8 BadPattern " ++ pattern_fault_text fault
fault_text BadValue = codes "9 BadValue"
fault_text Limit = codes "10 Limit"
fault_text (TooManyStates subject) = codes "11 TooManyStates " ++ subject_text subject
fault_text Memory = codes "12 Memory"

-- the number of the edit before its refusal, where it is that of an edit
abbrev pub batch_fault_text : BatchFault → List ℕ
batch_fault_text fault =
    if nat_eq fault.at 0 then fault_text fault.fault
    else (codes "at edit " ++ decimal fault.at ++ codes ": " ++ fault_text fault.fault)
