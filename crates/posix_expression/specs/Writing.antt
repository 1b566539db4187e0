-- The pattern that holds the lines in which an expression finds something, as text. A pattern fits a
-- whole line, so what may stand before and after is written too, as `.*`, and an anchor is what
-- keeps it away.
use Rattle.std.specs.Prelude.{ℕ, ◌-◌, Bool, true, false, ◌==◌, ◌&&◌, ◌||◌, not, if◌then◌else◌}
use Rattle.std.specs.Prelude.{List, [], ◌∷◌, ◌++◌, Option, Some, None, codes, Result, Ok, Err}
use Rattle.std.specs.List.{list_any}
use Rattle.std.specs.Bool.{beq}
use Rattle.std.specs.Fmt.{decimal}
use Rattle.basics.specs.Symbol.{is_text}
use Rattle.pol_pattern.specs.Reading.{pattern_of}
use Rattle.pol_pattern.specs.declared.fault.PatternFault.{PatternFault}
use Rattle.pol_pattern.specs.declared.fault.PatternFault.TheVariants as faults
use Rattle.posix_expression.specs.declared.tree.Item.{Item}
use Rattle.posix_expression.specs.declared.tree.Item.TheVariants.{One, Range}
use Rattle.posix_expression.specs.declared.tree.Repeats.{Repeats}
use Rattle.posix_expression.specs.declared.tree.Repeats.TheVariants.{Any, More, Optional, Between}
use Rattle.posix_expression.specs.declared.tree.Repeats.TheVariants.{AtLeast}
use Rattle.posix_expression.specs.declared.unsaid.Unsaid.{Unsaid}
use Rattle.posix_expression.specs.declared.unsaid.Unsaid.TheVariants as why
use Rattle.posix_expression.specs.Syntax.{Expression, blank, symbol, period, bracketed, begin, end}
use Rattle.posix_expression.specs.Syntax.{subexpression, duplicated, concatenated, alternated}
use Rattle.posix_expression.specs.Syntax.{has_begin, has_end}

-- ---- symbols, classes and counts as a pattern has them

-- also `{`, `}`, `^` and `$`, so that nobody asks about them
abbrev pub is_quoted : ℕ → Bool
is_quoted byte = list_any (λ sign. byte == sign) (codes "|*+?.[()\\{}^$")

abbrev pub symbol_written : ℕ → List ℕ
symbol_written byte = if is_quoted byte then 92 ∷ byte ∷ [] else byte ∷ []

abbrev pub symbols_written : List ℕ → List ℕ
symbols_written [] = []
symbols_written (byte ∷ bytes) = symbol_written byte ++ symbols_written bytes

abbrev pub is_quoted_in_class : ℕ → Bool
is_quoted_in_class byte = list_any (λ sign. byte == sign) (codes "]\\-^")

abbrev pub class_symbol_written : ℕ → List ℕ
class_symbol_written byte = if is_quoted_in_class byte then 92 ∷ byte ∷ [] else byte ∷ []

abbrev pub item_written : Item → List ℕ
item_written (One byte) = class_symbol_written byte
item_written (Range first last) =
    class_symbol_written first ++ 45 ∷ class_symbol_written last

abbrev pub items_written : List Item → List ℕ
items_written [] = []
items_written (item ∷ items) = item_written item ++ items_written items

abbrev pub negation_written : Bool → List ℕ
negation_written true = 94 ∷ []
negation_written false = []

abbrev pub class_written : Bool → Item → List Item → List ℕ
class_written negated first others =
    91 ∷ (negation_written negated ++ (item_written first ++ (items_written others ++ 93 ∷ [])))

abbrev pub count_written : ℕ → ℕ → List ℕ
count_written low high =
    123 ∷ (decimal low ++ ((if low == high then [] else 44 ∷ decimal high) ++ 125 ∷ []))

-- a part, so often; `{m,}` is `{m}` and then any number of times
abbrev pub repeated_written : Repeats → List ℕ → List ℕ
repeated_written Any part = part ++ 42 ∷ []
repeated_written More part = part ++ 43 ∷ []
repeated_written Optional part = part ++ 63 ∷ []
repeated_written (Between low high) part = part ++ count_written low high
repeated_written (AtLeast low) part =
    40 ∷ (part ++ (count_written low low ++ (part ++ 42 ∷ 41 ∷ [])))

-- ---- expressions

-- a `.*`, or nothing
abbrev pub any_if : Bool → List ℕ
any_if true = 46 ∷ 42 ∷ []
any_if false = []

-- a `.*` before it, a `.*` after it
abbrev pub around : Bool → List ℕ → Bool → List ℕ
around opens part closes = any_if opens ++ (part ++ any_if closes)

-- it is `.*` or `.+`, beside which no `.*` is needed
abbrev pub is_run : Expression → Repeats → Bool
is_run period Any = true
is_run period More = true
is_run period other = false
is_run part repeats = false

-- an expression, where something may stand before it, or after it. Where alternatives in parentheses
-- have anchors, the `.*` goes into the parentheses
abbrev pub written : Bool → Bool → Expression → List ℕ
written opens closes blank = any_if (opens || closes)
written opens closes (symbol byte) = around opens (symbol_written byte) closes
written opens closes period = around opens (46 ∷ []) closes
written opens closes (bracketed negated first others) =
    around opens (class_written negated first others) closes
written opens closes begin = any_if closes
written opens closes end = any_if opens
written opens closes (subexpression inner) =
    around (opens && not (has_begin inner))
    (40 ∷ (written (opens && has_begin inner) (closes && has_end inner) inner ++ 41 ∷ []))
    (closes && not (has_end inner))
written opens closes (duplicated part repeats) =
    around (opens && not (is_run part repeats))
    (repeated_written repeats (written false false part))
    (closes && not (is_run part repeats))
written opens closes (concatenated first second) =
    written opens false first ++ written false closes second
written opens closes (alternated first second) =
    written opens closes first ++ 124 ∷ written opens closes second

-- ---- what is found everywhere, and in no arguments

-- it is `.*`
abbrev pub is_star : Expression → Repeats → Bool
is_star period Any = true
is_star period other = false
is_star part repeats = false

-- `.*` and anchors alone
abbrev pub are_stars : Expression → Bool
are_stars blank = true
are_stars begin = true
are_stars end = true
are_stars (duplicated part repeats) = is_star part repeats
are_stars (concatenated first second) = are_stars first && are_stars second
are_stars other = false

abbrev pub has_repeats : Expression → Bool
has_repeats (duplicated part repeats) = true
has_repeats (concatenated first second) = has_repeats first || has_repeats second
has_repeats other = false

-- a branch begins with a `^`, or ends in a `$`
abbrev pub begins : Expression → Bool
begins begin = true
begins (concatenated first second) = begins first
begins other = false

abbrev pub ends : Expression → Bool
ends end = true
ends (concatenated first second) = ends second
ends other = false

-- a branch is found in any text: it is `.*`, or the empty text that isn't held at both ends
abbrev pub is_open : Expression → Bool
is_open branch = are_stars branch && (has_repeats branch || not (begins branch && ends branch))

abbrev pub is_everything : Expression → Bool
is_everything (alternated first second) = is_everything first || is_everything second
is_everything branch = is_open branch

abbrev pub allows_none : Repeats → Bool
allows_none Any = true
allows_none More = false
allows_none Optional = true
allows_none (Between low high) = low == 0
allows_none (AtLeast low) = low == 0

-- it is found in no arguments
abbrev pub is_optional : Expression → Bool
is_optional blank = true
is_optional (symbol byte) = false
is_optional period = false
is_optional (bracketed negated first others) = false
is_optional begin = true
is_optional end = true
is_optional (subexpression inner) = is_optional inner
is_optional (duplicated part repeats) = is_optional part || allows_none repeats
is_optional (concatenated first second) = is_optional first && is_optional second
is_optional (alternated first second) = is_optional first || is_optional second

-- ---- patterns

abbrev pub is_at_least : Repeats → Bool
is_at_least (AtLeast low) = true
is_at_least other = false

-- more than so many `{m,}` stand in one another, each of which is written as twice its part
abbrev pub doubles : ℕ → Expression → Bool
doubles most (subexpression inner) = doubles most inner
doubles most (duplicated part repeats) =
    if is_at_least repeats then most == 0 || doubles (most - 1) part else doubles most part
doubles most (concatenated first second) = doubles most first || doubles most second
doubles most (alternated first second) = doubles most first || doubles most second
doubles most other = false

-- anchors in parentheses
abbrev pub has_inner_begin : Expression → Bool
has_inner_begin begin = false
has_inner_begin (concatenated first second) = has_inner_begin first || has_inner_begin second
has_inner_begin other = has_begin other

abbrev pub has_inner_end : Expression → Bool
has_inner_end end = false
has_inner_end (concatenated first second) = has_inner_end first || has_inner_end second
has_inner_end other = has_end other

abbrev pub are_same : Option (Bool × Bool) → Option (Bool × Bool) → Bool
are_same None others = false
are_same (Some edges) None = false
are_same (Some edges) (Some others) = beq edges.0 others.0 && beq edges.1 others.1

abbrev pub if_same : Option (Bool × Bool) → Option (Bool × Bool) → Option (Bool × Bool)
if_same first second = if are_same first second then first else None

-- how a branch is anchored, where it is at its edges alone
abbrev pub branch_edges : Expression → Option (Bool × Bool)
branch_edges branch =
    if has_inner_begin branch || has_inner_end branch then None
    else Some (begins branch, ends branch)

-- how all alternatives are anchored, where they are anchored alike, and at their edges alone
abbrev pub edges_of : Expression → Option (Bool × Bool)
edges_of (alternated first second) = if_same (edges_of first) (edges_of second)
edges_of branch = branch_edges branch

-- one pattern may say both: they are anchored alike, and neither is found anywhere
abbrev pub may_join : Expression → Expression → Bool
may_join first second =
    not (is_everything first) && not (is_everything second)
    && are_same (edges_of first) (edges_of second)

abbrev pub either : Expression → Expression → Option Expression
either first second = if may_join first second then Some (alternated first second) else None

-- alternatives in parentheses. Where they are anchored alike, what may stand at their edges is
-- written once
abbrev pub alternatives_written : Option (Bool × Bool) → Expression → List ℕ
alternatives_written None expression = 40 ∷ (written true true expression ++ 41 ∷ [])
alternatives_written (Some edges) expression =
    around (not edges.0) (40 ∷ (written false false expression ++ 41 ∷ [])) (not edges.1)

abbrev pub some_written : Expression → List ℕ
some_written (alternated first second) =
    alternatives_written (edges_of (alternated first second)) (alternated first second)
some_written branch = written true true branch

-- what arguments have to fit
unfoldable pub arguments_written : Expression → List ℕ
arguments_written expression =
    if is_everything expression then 46 ∷ 42 ∷ [] else some_written expression

-- a command's name alone, or with arguments
unfoldable pub line_written : List ℕ → Expression → List ℕ
line_written name expression =
    if is_optional expression
    then symbols_written name ++ 40 ∷ 32 ∷ (arguments_written expression ++ 41 ∷ 63 ∷ [])
    else symbols_written name ++ 32 ∷ arguments_written expression

abbrev pub refusal_of : PatternFault → Unsaid
refusal_of faults.Memory = why.Memory
refusal_of other = why.TooLarge

abbrev pub unless_refused : Result (List ℕ) PatternFault → Result (List ℕ) Unsaid
unless_refused (Ok source) = Ok source
unless_refused (Err fault) = Err why.TooLarge

-- the pattern of the lines of a command, if a policy may have it
unfoldable pub pattern_for : List ℕ → Expression → Result (List ℕ) Unsaid
pattern_for name expression =
    if is_text name then unless_refused (pattern_of (line_written name expression))
    else Err why.NotSymbol
