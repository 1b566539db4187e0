use Rattle.std.proofs.Common.{◌∙◌}
use Rattle.tac_request.proofs.RecordFacts.{elapsed_of-decimal}
use Rattle.tac_request.proofs.record.Record.from_request.Goals as goal

pub returns-clause-printed : goal.returns-clause-printed
returns-clause-printed c = λ n small e. c.elapsed_time-elapsed.ensures ∙ elapsed_of-decimal c.args.args.now n small e
