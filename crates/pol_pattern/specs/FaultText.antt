-- How a fault is printed.
use Rattle.std.specs.Prelude.{ℕ, List, [], ◌++◌, codes, Option, Some, None}
use Rattle.std.specs.Fmt.{decimal}
use Rattle.pol_pattern.specs.declared.fault.PatternFault.{PatternFault}
use Rattle.pol_pattern.specs.declared.fault.PatternFault.TheVariants.{TooLong, Unprintable}
use Rattle.pol_pattern.specs.declared.fault.PatternFault.TheVariants.{Unclosed, Unopened}
use Rattle.pol_pattern.specs.declared.fault.PatternFault.TheVariants.{NothingToRepeat, BadClass}
use Rattle.pol_pattern.specs.declared.fault.PatternFault.TheVariants.{BadEscape, TooDeep, TooLarge}
use Rattle.pol_pattern.specs.declared.fault.PatternFault.TheVariants.{Memory, BadRepeat}

-- the kind's number and name, and the place where it has one
abbrev pub fault_text : PatternFault → List ℕ
fault_text TooLong = codes "1 TooLong"
fault_text (Unprintable place) = codes "2 Unprintable at " ++ decimal place
fault_text (Unclosed place) = codes "3 Unclosed at " ++ decimal place
fault_text (Unopened place) = codes "4 Unopened at " ++ decimal place
fault_text (NothingToRepeat place) = codes "5 NothingToRepeat at " ++ decimal place
fault_text (BadClass place) = codes "6 BadClass at " ++ decimal place
fault_text (BadEscape place) = codes "7 BadEscape at " ++ decimal place
fault_text TooDeep = codes "8 TooDeep"
fault_text TooLarge = codes "9 TooLarge"
fault_text Memory = codes "10 Memory"
fault_text (BadRepeat place) = codes "11 BadRepeat at " ++ decimal place

-- the place in the pattern's bytes, where there is one
abbrev pub place_of : PatternFault → Option ℕ
place_of TooLong = None
place_of (Unprintable place) = Some place
place_of (Unclosed place) = Some place
place_of (Unopened place) = Some place
place_of (NothingToRepeat place) = Some place
place_of (BadClass place) = Some place
place_of (BadEscape place) = Some place
place_of TooDeep = None
place_of TooLarge = None
place_of Memory = None
place_of (BadRepeat place) = Some place

-- what is printed of the place, after the name
abbrev pub place_text : Option ℕ → List ℕ
place_text None = []
place_text (Some place) = codes " at " ++ decimal place
