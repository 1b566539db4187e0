-- How a refusal of a question is printed.
use Rattle.std.specs.Prelude.{ℕ, List, codes}
use Rattle.tac_desk.specs.declared.query.QueryFault.{QueryFault}
use Rattle.tac_desk.specs.declared.query.QueryFault.TheVariants.{NoSuch, Memory}

-- the numbers and names are those of an edit's refusals
abbrev pub fault_text : QueryFault → List ℕ
fault_text NoSuch = codes "2 NoSuch"
fault_text Memory = codes "12 Memory"
