use Rattle.tac_worker.proofs.TurnFacts.{answered, same_reply}
use Rattle.tac_worker.proofs.turning.answer.Goals as goal

pub returns : goal.returns
returns g c =
    let found = c.in-Packet-default-Some in
    answered c.put_reply.result _ _ _ c.args.given.1 _ _ c.in_ok-tell.ensures.ok (rw (same_reply c.args.given.0 found.reply found.field-1-is) at c.put_reply.ensures)
