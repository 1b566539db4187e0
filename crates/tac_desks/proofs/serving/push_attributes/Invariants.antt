use Rattle.std.proofs.Common.{drop}
use Rattle.tac_desks.proofs.ServingFacts.{IsLeft}
use Rattle.tac_desks.proofs.serving.push_attributes.Given as goal

-- the attributes of the lines that are left are yet to come
abbrev pub invariant-loop-line : goal.invariant-loop-line
invariant-loop-line l = IsLeft l.service l.fn.arguments l.subject.services l.arguments (drop l.line-index l.subject.services)
