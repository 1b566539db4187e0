use Rattle.std.proofs.Common.{ap, ◌∙◌, subst}
use Rattle.basics.specs.Memory.{GivesUnlessMemory}
use Rattle.tac_wire.specs.Body.{is_memory}
use Rattle.tac_wire.proofs.CutFacts.{cut_laws}
use Rattle.tac_request.specs.AcctRequest.{acct_request_of}
use Rattle.tac_request.proofs.AcctRequestFacts.{acct_request_of-acct_request, is_found}
use Rattle.tac_request.proofs.acct_request.read_acct_request.Goals as goal

pub returns-clause-found : goal.returns-clause-found
returns-clause-found c = is_found cut_laws c.args.body.now c.read_fields.result c.read_fields.ensures.exact

pub returns-clause-only : goal.returns-clause-only
returns-clause-only c = λ request e. subst (GivesUnlessMemory is_memory (λ body. body) c.read_fields.result) (ap acct_request_of e ∙ acct_request_of-acct_request cut_laws request) c.read_fields.ensures.exact
