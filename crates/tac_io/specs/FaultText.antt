-- How it is said why an input was not read.
use Rattle.std.specs.Prelude.{ℕ, List, codes}
use Rattle.tac_io.specs.declared.reading.InputFault.{InputFault}
use Rattle.tac_io.specs.declared.reading.InputFault.TheVariants.{Failed, TooLong, Memory}

abbrev pub fault_text : InputFault → List ℕ
fault_text Failed = codes "the input could not be read"
fault_text TooLong = codes "the input is too long"
fault_text Memory = codes "memory ran out"
