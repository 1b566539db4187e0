use Rattle.tac_ask.proofs.BodyFacts.{author_read}
use Rattle.tac_ask.proofs.body.author_body.Goals as goal

pub returns-clause-read : goal.returns-clause-read
returns-clause-read c = author_read c.args.request.now c.request_or_fault.result c.request_or_fault.ensures
