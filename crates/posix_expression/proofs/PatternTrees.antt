-- The tree of the pattern of an expression.
use Rattle.std.specs.Prelude.{ℕ, Bool, true, false, ◌==◌, ◌&&◌, ◌||◌, not, if◌then◌else◌, List, [], ◌∷◌}
use Rattle.std.specs.Fmt.{decimal}
use Rattle.pol_pattern.specs.Spelling.{ClassSymbol, plain, quoted, Item as PatternItem, one, range, Suffix, asterisk, plus, question, exactly, between, Alternatives, Sequence, Repetition, Atom, single, nothing, next, once, repeated, literal, dot, bracket, escaped}
use Rattle.posix_expression.specs.declared.tree.Item.{Item}
use Rattle.posix_expression.specs.declared.tree.Item.TheVariants.{One, Range}
use Rattle.posix_expression.specs.declared.tree.Repeats.{Repeats}
use Rattle.posix_expression.specs.declared.tree.Repeats.TheVariants.{Any, More, Optional, Between, AtLeast}
use Rattle.posix_expression.specs.Syntax.{Expression, blank, symbol, period, bracketed, begin, end, subexpression, duplicated, concatenated, alternated, has_begin, has_end}
use Rattle.posix_expression.specs.Writing.{is_quoted, is_quoted_in_class, is_run}
use Rattle.posix_expression.proofs.PatternSets.{append, in_parentheses, as_sequence, join_alternatives}

abbrev pub symbol_atom : ℕ → Atom
symbol_atom byte = if is_quoted byte then escaped byte else literal byte

abbrev pub class_symbol_of : ℕ → ClassSymbol
class_symbol_of byte = if is_quoted_in_class byte then quoted byte else plain byte

abbrev pub item_of : Item → PatternItem
item_of (One byte) = one (class_symbol_of byte)
item_of (Range first last) = range (class_symbol_of first) (class_symbol_of last)

abbrev pub items_of : List Item → List PatternItem
items_of [] = []
items_of (item ∷ items) = item_of item ∷ items_of items

abbrev pub any_part : Repetition
any_part = repeated (once dot) asterisk

abbrev pub any_sequence : Bool → Sequence
any_sequence true = next any_part nothing
any_sequence false = nothing

abbrev pub around_part : Bool → Repetition → Bool → Sequence
around_part opens part closes = append (any_sequence opens) (next part (any_sequence closes))

abbrev pub counts_suffix : ℕ → ℕ → Suffix
counts_suffix low high = if low == high then exactly (decimal low) else between (decimal low) (decimal high)

abbrev pub repeated_part : Repeats → Repetition → Repetition
repeated_part Any part = repeated part asterisk
repeated_part More part = repeated part plus
repeated_part Optional part = repeated part question
repeated_part (Between low high) part = repeated part (counts_suffix low high)
repeated_part (AtLeast low) part =
    in_parentheses (single (next (repeated part (counts_suffix low low)) (next (repeated part asterisk) nothing)))

abbrev mutual
  pub pattern_tree : Bool → Bool → Expression → Alternatives
  pattern_tree opens closes blank = single (any_sequence (opens || closes))
  pattern_tree opens closes (symbol byte) = single (around_part opens (once (symbol_atom byte)) closes)
  pattern_tree opens closes period = single (around_part opens (once dot) closes)
  pattern_tree opens closes (bracketed negated first others) =
      single (around_part opens (once (bracket negated (item_of first) (items_of others))) closes)
  pattern_tree opens closes begin = single (any_sequence closes)
  pattern_tree opens closes end = single (any_sequence opens)
  pattern_tree opens closes (subexpression inner) =
      single (around_part (opens && not (has_begin inner))
      (in_parentheses (pattern_tree (opens && has_begin inner) (closes && has_end inner) inner)) (closes && not (has_end inner)))
  pattern_tree opens closes (duplicated part repeats) =
      single (around_part (opens && not (is_run part repeats)) (repeated_part repeats (part_tree part)) (closes && not (is_run part repeats)))
  pattern_tree opens closes (concatenated first second) =
      single (append (as_sequence (pattern_tree opens false first)) (as_sequence (pattern_tree false closes second)))
  pattern_tree opens closes (alternated first second) =
      join_alternatives (pattern_tree opens closes first) (pattern_tree opens closes second)

  -- a piece without anchors
  pub part_tree : Expression → Repetition
  part_tree (symbol byte) = once (symbol_atom byte)
  part_tree period = once dot
  part_tree (bracketed negated first others) = once (bracket negated (item_of first) (items_of others))
  part_tree (subexpression inner) = in_parentheses (pattern_tree false false inner)
  part_tree (duplicated part repeats) = repeated_part repeats (part_tree part)
  part_tree other = in_parentheses (single nothing)
