use Rattle.std.proofs.Common.{ap, ◌∙◌, subst}
use Rattle.basics.specs.Memory.{GivesUnlessMemory}
use Rattle.tac_wire.specs.Body.{is_memory}
use Rattle.tac_wire.proofs.CutFacts.{cut_laws}
use Rattle.tac_request.specs.AuthorRequest.{author_request_of}
use Rattle.tac_request.proofs.RequestFacts.{author_request_of-author_request, is_found}
use Rattle.tac_request.proofs.author_request.read_author_request.Goals as goal

pub returns-clause-found : goal.returns-clause-found
returns-clause-found c = is_found cut_laws c.args.body.now c.read_fields.result c.read_fields.ensures.exact

pub returns-clause-only : goal.returns-clause-only
returns-clause-only c = λ request e. subst (GivesUnlessMemory is_memory (λ body. body) c.read_fields.result) (ap author_request_of e ∙ author_request_of-author_request cut_laws request) c.read_fields.ensures.exact
