-- The expression that is searched for.
use Rattle.posix_expression.specs.declared.expression.Search.{Search}
use Rattle.posix_expression.specs.Syntax.{Expression}
use Rattle.posix_expression.specs.Trees.{expression_of}

abbrev pub searched : Search → Expression
searched search = expression_of search.tree
