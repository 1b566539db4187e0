use Rattle.tac_net.proofs.SendFacts.{sent_in_part}
use Rattle.tac_net.proofs.opening.announce.Goals as goal

pub returns : goal.returns
returns g c =
    let begins = sent_in_part _ c.send-sent.result.0 _ _ c.send-sent.ensures.taken (rw c.in-Err.is at c.send-sent.ensures.some_left) in
    rw (c.as_slice.ensures.value, c.in_ok-lines.ensures) at begins
