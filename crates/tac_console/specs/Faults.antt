-- What is printed of a policy that can't stand (docs/SCRIPT.md, "Faults"). Every line ends in LF.
use Rattle.std.specs.Prelude.{ℕ, List, [], ◌∷◌, ◌++◌, codes}
use Rattle.std.specs.Fmt.{decimal}
use Rattle.pol_names.specs.SubjectId.{subject_text}
use Rattle.pol_names.specs.declared.subject_id.SubjectId.{SubjectId}
use Rattle.pol_text.specs.FaultText.{refusal_text}
use Rattle.pol_text.specs.declared.fault.PolicyFault.{PolicyFault}
use Rattle.pol_text.specs.declared.fault.PolicyFault.TheVariants as policies

abbrev pub fault_line : List ℕ → List ℕ
fault_line what = codes "fault " ++ what ++ 10 ∷ []

-- a text that says no policy: the line, and what is wrong there
abbrev pub policy_fault : PolicyFault → List ℕ
policy_fault (policies.Refused line refusal) =
    fault_line (codes "line " ++ decimal line ++ codes " " ++ refusal_text refusal)
policy_fault policies.Memory = fault_line (codes "Memory")

-- a policy that is too large: whose rules are
abbrev pub size_fault : SubjectId → List ℕ
size_fault subject = fault_line (codes "TooManyStates " ++ subject_text subject)
