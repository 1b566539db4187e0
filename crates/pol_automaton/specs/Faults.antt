-- What a fault of the scan is of a Decider that is made by it.
use Rattle.std.specs.Prelude.{◌≡◌, refl}
use Rattle.pol_scan.specs.declared.fault.ScanFault.{ScanFault}
use Rattle.pol_scan.specs.declared.fault.ScanFault.TheVariants as scan
use Rattle.pol_automaton.specs.declared.fault.DeciderFault.{DeciderFault}
use Rattle.pol_automaton.specs.declared.fault.DeciderFault.TheVariants.{TooManyStates, Memory}

abbrev pub fault_of : ScanFault → DeciderFault
fault_of scan.TooMany = TooManyStates
fault_of scan.Memory = Memory

pub too_many_from : (fault : ScanFault) → fault_of fault ≡ TooManyStates → fault ≡ scan.TooMany
too_many_from scan.TooMany e = refl
too_many_from scan.Memory e = absurd cc
