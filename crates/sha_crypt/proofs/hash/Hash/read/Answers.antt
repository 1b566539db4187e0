use Rattle.std.proofs.Common.{ap, ◌∙◌}
use Rattle.sha_crypt.specs.HashText.{hash_of}
use Rattle.sha_crypt.proofs.TextFacts.{again, found}
use Rattle.sha_crypt.proofs.hash.Hash.read.Goals as goal

pub returns-clause-found : goal.returns-clause-found
returns-clause-found c = found c.args.text.now c.find.result c.find.ensures

pub returns-clause-only : goal.returns-clause-only
returns-clause-only c = λ hash right e. c.find.ensures ∙ ap hash_of e ∙ again hash right
