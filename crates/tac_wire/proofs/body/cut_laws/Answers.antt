use Rattle.tac_wire.proofs.CutFacts.{cut_laws}
use Rattle.tac_wire.proofs.body.cut_laws.Goals as goal

pub returns : goal.returns
returns c = cut_laws
