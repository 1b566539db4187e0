-- How the faults of a script are printed.
use Rattle.std.specs.Prelude.{ℕ, List, ◌∷◌, ◌++◌, codes, Option, Some, None}
use Rattle.std.specs.Fmt.{decimal}
use Rattle.pol_names.specs.SubjectId.{subject_text}
use Rattle.pol_text.specs.FaultText.{refusal_text}
use Rattle.tac_server.specs.declared.script_fault.ScriptFault.{ScriptFault}
use Rattle.tac_server.specs.declared.script_fault.ScriptFault.TheVariants.{BadKey, NoRun, BadPolicy}
use Rattle.tac_server.specs.declared.script_fault.ScriptFault.TheVariants.{TooManyStates}
use Rattle.tac_server.specs.declared.script_fault.ScriptFault.TheVariants.{BadCommand, NoConnection}
use Rattle.tac_server.specs.declared.script_fault.ScriptFault.TheVariants.{AlreadyOpen}
use Rattle.tac_server.specs.declared.script_fault.Located.{Located}

abbrev pub script_fault_text : ScriptFault → List ℕ
script_fault_text BadKey = codes "BadKey"
script_fault_text NoRun = codes "NoRun"
script_fault_text (BadPolicy refusal) = refusal_text refusal
script_fault_text (TooManyStates subject) = codes "TooManyStates " ++ subject_text subject
script_fault_text BadCommand = codes "BadCommand"
script_fault_text NoConnection = codes "NoConnection"
script_fault_text AlreadyOpen = codes "AlreadyOpen"

-- `fault line L FAULT`, or `fault FAULT`
abbrev pub fault_text : Option ℕ → List ℕ → List ℕ
fault_text (Some line) text = codes "fault line " ++ decimal line ++ 32 ∷ text
fault_text None text = codes "fault " ++ text

abbrev pub located_text : Located → List ℕ
located_text at = fault_text at.line (script_fault_text at.fault)
