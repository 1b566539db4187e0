use Rattle.std.proofs.Common.{ap, ◌∙◌}
use Rattle.sha_crypt.specs.HashText.{hash_of}
use Rattle.sha_crypt.proofs.TextFacts.{again}
use Rattle.sha_crypt.proofs.hash.Hash.text.Goals as goal

pub returns-clause-again : goal.returns-clause-again
returns-clause-again c = ap hash_of c.spelled.ensures.text ∙ again c.args.self.now c.spelled.ensures.right
