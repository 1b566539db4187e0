use Rattle.tac_ask.proofs.BodyFacts.{start_read}
use Rattle.tac_ask.proofs.body.start_body.Goals as goal

pub returns-clause-read : goal.returns-clause-read
returns-clause-read c = start_read c.args.start.now c.start_or_fault.result c.start_or_fault.ensures
