-- What trees, levels and states of the code represent.
use Rattle.std.specs.Prelude.{List, map, reverse, option_map}
use Rattle.posix_expression.specs.declared.level.Level.{Level as LevelValue}
use Rattle.posix_expression.specs.declared.reading.Reading.{Reading as ReadingValue}
use Rattle.posix_expression.specs.declared.tree.Tree.{Tree}
use Rattle.posix_expression.specs.declared.tree.Tree.TheVariants.{Blank, Symbol, Period, Bracketed}
use Rattle.posix_expression.specs.declared.tree.Tree.TheVariants.{Begin, End, Subexpression'}
use Rattle.posix_expression.specs.declared.tree.Tree.TheVariants.{Duplicated', Concatenated'}
use Rattle.posix_expression.specs.declared.tree.Tree.TheVariants.{Alternated'}
use Rattle.posix_expression.specs.Syntax.{Expression, blank, symbol, period, bracketed, begin, end}
use Rattle.posix_expression.specs.Syntax.{subexpression, duplicated, concatenated, alternated}
use Rattle.posix_expression.specs.Reading.{Level, State}

abbrev pub expression_of : Tree → Expression
expression_of Blank = blank
expression_of (Symbol byte) = symbol byte
expression_of Period = period
expression_of (Bracketed negated first others) = bracketed negated first others.items
expression_of Begin = begin
expression_of End = end
expression_of (Subexpression' p inner) = subexpression (expression_of inner)
expression_of (Duplicated' p part repeats) = duplicated (expression_of part) repeats
expression_of (Concatenated' p first q second) =
    concatenated (expression_of first) (expression_of second)
expression_of (Alternated' p first q second) =
    alternated (expression_of first) (expression_of second)

abbrev pub level_of : LevelValue → Level
level_of level = record {
  done = option_map expression_of level.done;
  before = expression_of level.before;
  last = expression_of level.last;
}

abbrev pub levels_of : List LevelValue → List Level
levels_of levels = map level_of (reverse levels)

abbrev pub state_of : ReadingValue → State
state_of reading = record { level = level_of reading.level; outer = levels_of reading.outer.items }
