use Rattle.tac_ask.proofs.BodyFacts.{continue_read}
use Rattle.tac_ask.proofs.body.continue_body.Goals as goal

pub returns-clause-read : goal.returns-clause-read
returns-clause-read c = continue_read c.args.answer.now c.continue_or_fault.result c.continue_or_fault.ensures
