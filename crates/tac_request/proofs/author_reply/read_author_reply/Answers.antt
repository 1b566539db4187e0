use Rattle.std.proofs.Common.{ap, ◌∙◌, subst, arith}
use Rattle.basics.specs.Memory.{GivesUnlessMemory}
use Rattle.tac_wire.specs.Body.{is_memory}
use Rattle.tac_wire.proofs.CutFacts.{cut_laws}
use Rattle.tac_request.specs.AuthorReply.{author_reply_of}
use Rattle.tac_request.proofs.ReplyFacts.{is_found, author_reply_of-author_reply}
use Rattle.tac_request.proofs.author_reply.read_author_reply.Goals as goal

pub returns-clause-found : goal.returns-clause-found
returns-clause-found c = is_found cut_laws c.args.body.now c.read_fields.result (λ i. omega (arith, c.type_inv.body i)) c.read_fields.ensures.exact

pub returns-clause-only : goal.returns-clause-only
returns-clause-only c = λ reply short e. subst (GivesUnlessMemory is_memory (λ reply. reply) c.read_fields.result) (ap author_reply_of e ∙ author_reply_of-author_reply cut_laws reply short) c.read_fields.ensures.exact
