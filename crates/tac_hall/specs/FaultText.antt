-- How a refusal of the hall is printed.
use Rattle.std.specs.Prelude.{ℕ, List, codes}
use Rattle.tac_hall.specs.declared.fault.HallFault.{HallFault}
use Rattle.tac_hall.specs.declared.fault.HallFault.TheVariants.{LogFull, Memory, Closed, NoSeat}

abbrev pub fault_text : HallFault → List ℕ
fault_text LogFull = codes "13 LogFull"
fault_text Memory = codes "12 Memory"
fault_text Closed = codes "14 Closed"
fault_text NoSeat = codes "15 NoSeat"
