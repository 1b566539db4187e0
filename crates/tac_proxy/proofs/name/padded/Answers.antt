use Rattle.tac_proxy.proofs.NameFacts.{padded_is}
use Rattle.tac_proxy.proofs.name.padded.Goals as goal

pub returns : goal.returns
returns c = padded_is c.args.text.now c.copy_from_slice.new.self c.copy_from_slice.ensures.after
