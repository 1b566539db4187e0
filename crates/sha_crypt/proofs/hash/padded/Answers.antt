use Rattle.sha_crypt.proofs.SaltFacts.{padded_is}
use Rattle.sha_crypt.proofs.hash.padded.Goals as goal

pub returns : goal.returns
returns c = padded_is c.args.salt.now c.copy_from_slice.new.self c.copy_from_slice.ensures.after
