use Rattle.tac_proxy.proofs.NameFacts.{name_made, take-filled}
use Rattle.tac_proxy.proofs.name.CommonName.new.Goals as goal

pub invariant_of-result : goal.invariant_of-result
invariant_of-result c = name_made c.args.bytes.now c.padded.result c.padded.ensures c.requires

pub returns : goal.returns
returns c = take-filled c.args.bytes.now c.padded.result c.padded.ensures
