use Rattle.std.proofs.Common.{rules}
use Rattle.tac_proxy.proofs.BinaryFacts.{binary_whole}
use Rattle.tac_proxy.proofs.binary.read_binary.Goals as goal

pub returns : goal.returns
returns c =
    binary_whole c.args.bytes.now c.from-size.result c.transport_of-transport.result _ c.told.result
    (search rules) (search rules) (search rules) (search rules) (search rules) (search rules) (search rules) c.told.ensures
