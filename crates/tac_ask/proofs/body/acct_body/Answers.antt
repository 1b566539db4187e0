use Rattle.tac_ask.proofs.BodyFacts.{acct_read}
use Rattle.tac_ask.proofs.body.acct_body.Goals as goal

pub returns-clause-read : goal.returns-clause-read
returns-clause-read c = acct_read c.args.flags c.args.request.now c.request_or_fault.result c.request_or_fault.ensures
