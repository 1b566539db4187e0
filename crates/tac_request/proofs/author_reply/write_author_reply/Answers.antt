use Rattle.tac_wire.proofs.CutFacts.{cut_laws}
use Rattle.tac_request.proofs.ReplyFacts.{author_reply_of-author_reply}
use Rattle.tac_request.proofs.author_reply.write_author_reply.Goals as goal

pub returns-clause-again : goal.returns-clause-again
returns-clause-again c = author_reply_of-author_reply cut_laws c.args.reply.now c.spell.ensures.short
