use Rattle.std.proofs.Common.{arith, rules}
use Rattle.tac_wire.proofs.StreamFacts.{packet-found}
use Rattle.tac_wire.proofs.framer.first_item.Goals as goal

pub returns-clause-found : goal.returns-clause-found
returns-clause-found c =
    packet-found c.args.bytes.now c.in-Some.head.now c.in-Some.rest.now c.read-header.result c.in_ok-body.body (search rules) (search rules) c.read-header.ensures.found (search rules) (omega arith)
