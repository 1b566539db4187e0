use Rattle.std.proofs.Common.{ap, ◌∙◌, subst}
use Rattle.basics.specs.Memory.{GivesUnlessMemory}
use Rattle.tac_wire.specs.Body.{is_memory}
use Rattle.tac_wire.proofs.CutFacts.{cut_laws}
use Rattle.tac_authen.specs.Start.{start_of}
use Rattle.tac_authen.proofs.StartFacts.{start_of-start_bytes, is_found}
use Rattle.tac_authen.proofs.start.read_start.Goals as goal

pub returns-clause-found : goal.returns-clause-found
returns-clause-found c = is_found cut_laws c.args.body.now c.read_fields.result c.read_fields.ensures.exact

pub returns-clause-only : goal.returns-clause-only
returns-clause-only c = λ start e. subst (GivesUnlessMemory is_memory (λ body. body) c.read_fields.result) (ap start_of e ∙ start_of-start_bytes cut_laws start) c.read_fields.ensures.exact
