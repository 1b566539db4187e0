use Rattle.tac_wire.proofs.StreamFacts.{cut-append}
use Rattle.tac_wire.proofs.framer.Framer.feed.Goals as goal

pub returns-then-self-clause-pieces : goal.returns-then-self-clause-pieces
returns-then-self-clause-pieces c = cut-append

pub returns-clause-pieces : goal.returns-clause-pieces
returns-clause-pieces c = cut-append
