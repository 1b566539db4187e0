use Rattle.posix_expression.specs.Trees.{expression_of}
use Rattle.posix_expression.proofs.Sound.{reading_spells}
use Rattle.posix_expression.proofs.expression.Search.read.Goals as goal

pub invariant_of-result : goal.invariant_of-result
invariant_of-result c = record { said = (reading_spells c.args.text.now (expression_of c.in_ok-tree.tree) c.in_ok-tree.ensures).0 }

pub returns-clause-found : goal.returns-clause-found
returns-clause-found c = reading_spells c.args.text.now (expression_of c.in_ok-tree.tree) c.in_ok-tree.ensures
