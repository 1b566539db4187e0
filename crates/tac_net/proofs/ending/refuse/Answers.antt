use Rattle.tac_net.proofs.SendFacts.{sent_in_part}
use Rattle.tac_net.proofs.ending.refuse.Goals as goal

pub returns-in-Err : goal.returns-in-Err
returns-in-Err g c = sent_in_part _ c.send-sent.result.0 _ _ c.send-sent.ensures.taken (rw c.in-Err.is at c.send-sent.ensures.some_left)
