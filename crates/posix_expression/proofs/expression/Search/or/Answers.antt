use Rattle.std.proofs.Common.{◌≡◌, ◌↔◌, ◌⊎◌, ap, sym, subst, ◌∙◌}
use Rattle.posix_expression.specs.Syntax.{Expression, alternated}
use Rattle.posix_expression.specs.Finding.{Finds}
use Rattle.posix_expression.specs.Trees.{expression_of}
use Rattle.posix_expression.proofs.Whole.{either_law}
use Rattle.posix_expression.proofs.expression.Search.or.Goals as goal

pub returns-clause-found : goal.returns-clause-found
returns-clause-found c =
    let a : Expression = expression_of c.args.self.now.tree in
    let b : Expression = expression_of c.args.other.now.tree in
    let first : expression_of c.in_ok-first-2.first.value ≡ a = ap expression_of c.in_ok-first-2.ensures.ok ∙ c.in_ok-first.ensures in
    let second : expression_of c.in_ok-second-2.second.value ≡ b = ap expression_of c.in_ok-second-2.ensures.ok ∙ c.in_ok-second.ensures in
    λ arguments.
    subst (λ (x : Expression). Finds (alternated x (expression_of c.in_ok-second-2.second.value)) arguments ↔ (Finds a arguments ⊎ Finds b arguments)) (sym first)
    (subst (λ (y : Expression). Finds (alternated a y) arguments ↔ (Finds a arguments ⊎ Finds b arguments)) (sym second) (either_law a b arguments))
