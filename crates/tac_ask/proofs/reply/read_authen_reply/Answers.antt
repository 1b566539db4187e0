use Rattle.std.proofs.Common.{ap, ◌∙◌, subst, arith}
use Rattle.basics.specs.Memory.{GivesUnlessMemory}
use Rattle.tac_wire.specs.Body.{is_memory}
use Rattle.tac_ask.specs.Reply.{authen_reply_of}
use Rattle.tac_ask.proofs.ReplyFacts.{authen-again, authen-is_found}
use Rattle.tac_ask.proofs.reply.read_authen_reply.Goals as goal

pub returns-clause-found : goal.returns-clause-found
returns-clause-found c = authen-is_found c.args.body.now c.authen_fields.result (λ i. omega (arith, c.type_inv.body i)) c.authen_fields.ensures

pub returns-clause-only : goal.returns-clause-only
returns-clause-only c = λ reply is e. subst (GivesUnlessMemory is_memory (λ reply. reply) c.authen_fields.result) (ap authen_reply_of e ∙ authen-again reply is) c.authen_fields.ensures
