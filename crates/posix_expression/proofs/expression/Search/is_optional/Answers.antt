use Rattle.std.proofs.lemmas.Bool.{and_parts}
use Rattle.posix_expression.specs.Syntax.{Expression, is_formed, is_edged}
use Rattle.posix_expression.specs.Trees.{expression_of}
use Rattle.posix_expression.proofs.Whole.{optional_law}
use Rattle.posix_expression.proofs.expression.Search.is_optional.Goals as goal

pub returns : goal.returns
returns c =
    let e : Expression = expression_of c.args.self.now.tree in
    rw c.is_optional.ensures (optional_law e (and_parts (is_formed e) (is_edged e) c.args.self.now.said).0)
