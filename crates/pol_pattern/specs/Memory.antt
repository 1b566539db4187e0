-- Which fault says that memory ran out.
use Rattle.std.specs.Prelude.{Bool, true, false}
use Rattle.pol_pattern.specs.declared.fault.PatternFault.{PatternFault}
use Rattle.pol_pattern.specs.declared.fault.PatternFault.TheVariants as faults

abbrev pub is_memory : PatternFault → Bool
is_memory faults.Memory = true
is_memory fault = false
