use Rattle.std.proofs.Common.{ap, ◌∙◌, subst, arith}
use Rattle.basics.specs.Memory.{GivesUnlessMemory}
use Rattle.tac_wire.specs.Body.{is_memory}
use Rattle.tac_ask.specs.Reply.{author_reply_of}
use Rattle.tac_ask.proofs.ReplyFacts.{author-again, author-is_found}
use Rattle.tac_ask.proofs.reply.read_author_reply.Goals as goal

pub returns-clause-found : goal.returns-clause-found
returns-clause-found c = author-is_found c.args.body.now c.author_fields.result (λ i. omega (arith, c.type_inv.body i)) c.author_fields.ensures

pub returns-clause-only : goal.returns-clause-only
returns-clause-only c = λ reply is e. subst (GivesUnlessMemory is_memory (λ reply. reply) c.author_fields.result) (ap author_reply_of e ∙ author-again reply is) c.author_fields.ensures
