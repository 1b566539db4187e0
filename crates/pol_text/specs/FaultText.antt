-- How a refusal is printed, and a fault.
use Rattle.std.specs.Prelude.{ℕ, List, [], ◌++◌, codes}
use Rattle.std.specs.Fmt.{decimal}
use Rattle.pol_pattern.specs.FaultText as patterns
use Rattle.pol_text.specs.declared.fault.PolicyRefusal.{PolicyRefusal}
use Rattle.pol_text.specs.declared.fault.PolicyRefusal.TheVariants.{BadLine, BadName, Repeated}
use Rattle.pol_text.specs.declared.fault.PolicyRefusal.TheVariants.{NoSubject, BadPattern, BadValue}
use Rattle.pol_text.specs.declared.fault.PolicyRefusal.TheVariants.{NoSuchParent, Cycle, TooDeep}
use Rattle.pol_text.specs.declared.fault.PolicyRefusal.TheVariants.{Limit}
use Rattle.pol_text.specs.declared.fault.PolicyFault.{PolicyFault}
use Rattle.pol_text.specs.declared.fault.PolicyFault.TheVariants.{Refused, Memory}

-- the kind's number and name; a bad pattern adds what is wrong with it
abbrev pub refusal_text : PolicyRefusal → List ℕ
refusal_text BadLine = codes "1 BadLine"
refusal_text BadName = codes "2 BadName"
refusal_text Repeated = codes "3 Repeated"
refusal_text NoSubject = codes "4 NoSubject"
refusal_text (BadPattern fault) = codes "5 BadPattern " ++ patterns.fault_text fault
refusal_text BadValue = codes "6 BadValue"
refusal_text NoSuchParent = codes "7 NoSuchParent"
refusal_text Cycle = codes "8 Cycle"
refusal_text TooDeep = codes "9 TooDeep"
refusal_text Limit = codes "10 Limit"

-- what is printed of a refusal after its name
abbrev pub reason_text : PolicyRefusal → List ℕ
reason_text (BadPattern fault) = codes " " ++ patterns.fault_text fault
reason_text refusal = []

-- the line comes before what is wrong there
abbrev pub fault_text : PolicyFault → List ℕ
fault_text (Refused line refusal) =
    codes "line " ++ decimal line ++ codes ": " ++ refusal_text refusal
fault_text Memory = codes "11 Memory"
