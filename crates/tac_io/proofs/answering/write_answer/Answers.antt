use Rattle.std.proofs.Common.{rules}
use Rattle.tac_io.proofs.answering.write_answer.Goals as goal

pub returns : goal.returns
returns g c = (search rules, (c.send-sent-in-Err-Memory.result.0, search rules, c.send-sent-in-Err-Memory.ensures.taken))
