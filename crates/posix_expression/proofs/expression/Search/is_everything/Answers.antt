use Rattle.std.proofs.Common.{sym, ◌∙◌}
use Rattle.std.proofs.lemmas.Bool.{and_parts}
use Rattle.posix_expression.specs.Syntax.{Expression, is_formed, is_edged}
use Rattle.posix_expression.specs.Trees.{expression_of}
use Rattle.posix_expression.proofs.Whole.{everything_finds}
use Rattle.posix_expression.proofs.expression.Search.is_everything.Goals as goal

pub returns-clause-found : goal.returns-clause-found
returns-clause-found c =
    let e : Expression = expression_of c.args.self.now.tree in
    λ is. everything_finds e (and_parts (is_formed e) (is_edged e) c.args.self.now.said).1 (sym c.is_everything.ensures ∙ is)
