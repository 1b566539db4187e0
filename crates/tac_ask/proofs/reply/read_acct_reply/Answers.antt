use Rattle.std.proofs.Common.{ap, ◌∙◌, subst, arith}
use Rattle.basics.specs.Memory.{GivesUnlessMemory}
use Rattle.tac_wire.specs.Body.{is_memory}
use Rattle.tac_ask.specs.Reply.{acct_reply_of}
use Rattle.tac_ask.proofs.ReplyFacts.{acct-again, acct-is_found}
use Rattle.tac_ask.proofs.reply.read_acct_reply.Goals as goal

pub returns-clause-found : goal.returns-clause-found
returns-clause-found c = acct-is_found c.args.body.now c.acct_fields.result (λ i. omega (arith, c.type_inv.body i)) c.acct_fields.ensures

pub returns-clause-only : goal.returns-clause-only
returns-clause-only c = λ reply is e. subst (GivesUnlessMemory is_memory (λ reply. reply) c.acct_fields.result) (ap acct_reply_of e ∙ acct-again reply is) c.acct_fields.ensures
