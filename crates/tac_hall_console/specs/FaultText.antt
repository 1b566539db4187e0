-- How it is said why the operator's console has ended.
use Rattle.std.specs.Prelude.{ℕ, List, codes}
use Rattle.tac_hall_console.specs.declared.fault.OperatorFault.{OperatorFault}
use Rattle.tac_hall_console.specs.declared.fault.OperatorFault.TheVariants.{ReadFault, WriteFault}
use Rattle.tac_hall_console.specs.declared.fault.OperatorFault.TheVariants.{Memory}

abbrev pub fault_text : OperatorFault → List ℕ
fault_text ReadFault = codes "the console could not be read"
fault_text WriteFault = codes "an answer could not be written"
fault_text Memory = codes "memory ran out"
