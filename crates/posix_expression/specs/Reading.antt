-- Reading an expression from the left, with the first fault that is met. Syntax says which text
-- spells which expression; the contract of `Search::read` says that what is read is spelled so.
use Rattle.std.specs.Prelude.{ℕ, zero, suc, Bool, true, false, ◌==◌, ◌&&◌, ◌||◌, not, nat_lt, nat_le}
use Rattle.std.specs.Prelude.{if◌then◌else◌, List, [], ◌∷◌, length, drop, slice_index, Option, Some}
use Rattle.std.specs.Prelude.{None, Result, Ok, Err}
use Rattle.std.specs.Option.{option_map_or}
use Rattle.basics.specs.Symbol.{is_symbol}
use Rattle.basics.specs.Number.{number_of}
use Rattle.basics.specs.Lines.{split_at_first}
use Rattle.posix_expression.specs.declared.tree.Item.{Item}
use Rattle.posix_expression.specs.declared.tree.Item.TheVariants.{One, Range}
use Rattle.posix_expression.specs.declared.tree.Repeats.{Repeats}
use Rattle.posix_expression.specs.declared.tree.Repeats.TheVariants.{Any, More, Optional, Between}
use Rattle.posix_expression.specs.declared.tree.Repeats.TheVariants.{AtLeast}
use Rattle.posix_expression.specs.declared.unsaid.Unsaid.{Unsaid}
use Rattle.posix_expression.specs.declared.unsaid.Unsaid.TheVariants as why
use Rattle.posix_expression.specs.Syntax.{Expression, blank, symbol, period, bracketed, begin, end}
use Rattle.posix_expression.specs.Syntax.{subexpression, duplicated, concatenated, alternated}
use Rattle.posix_expression.specs.Syntax.{is_blank, is_begin, is_end, has_begin, has_end}
use Rattle.posix_expression.specs.Syntax.{is_reserved}

infixl 10 ◌>>=◌
abbrev pub ◌>>=◌ : {A B : Type 0} → Result A Unsaid → (A → Result B Unsaid) → Result B Unsaid
(Ok x) >>= f = f x
(Err e) >>= f = Err e

-- ---- what follows a `\`, a `[` or a `{`: what it is, and the rest of the text

-- a symbol after a `\`
unfoldable pub escaped_at : List ℕ → Result (ℕ × List ℕ) Unsaid
escaped_at [] = Err why.Escape
escaped_at (byte ∷ rest) =
    if nat_le 49 byte && nat_le byte 57 then Err why.Reference
    else if is_reserved byte then Err why.Escape
    else if is_symbol byte then Ok (byte, rest) else Err why.NotSymbol

-- a `[` that begins a class by name
abbrev pub begins_name : ℕ → List ℕ → Bool
begins_name byte rest =
    byte == 91 && (slice_index rest 0 == 58 || slice_index rest 0 == 46 || slice_index rest 0 == 61)

-- a `-` with a symbol after it that isn't the end of the class
abbrev pub begins_range : List ℕ → Bool
begins_range rest =
    nat_le 2 (length rest) && slice_index rest 0 == 45 && not (slice_index rest 1 == 93)

-- after a range POSIX doesn't say what such a `-` means
unfoldable pub range_of : ℕ → ℕ → List ℕ → Result (Item × List ℕ) Unsaid
range_of first last rest =
    if nat_lt last first || last == 91 || begins_range rest then Err why.BadClass
    else if is_symbol first && is_symbol last then Ok (Range first last, rest)
    else Err why.NotSymbol

-- an item of a class
unfoldable pub item_at : List ℕ → Result (Item × List ℕ) Unsaid
item_at [] = Err why.BadClass
item_at (byte ∷ rest) =
    if begins_name byte rest then Err why.NamedClass
    else if begins_range rest then range_of byte (slice_index rest 1) (drop 2 rest)
    else if is_symbol byte then Ok (One byte, rest) else Err why.NotSymbol

abbrev pub ends_class : List ℕ → Bool
ends_class text = nat_le 1 (length text) && slice_index text 0 == 93

-- at most so many items up to a `]`, and the rest after it
unfoldable pub items_within : ℕ → List ℕ → Result (List Item × List ℕ) Unsaid
items_within zero text = Err why.BadClass
items_within (suc most) text =
    if ends_class text then Ok ([], drop 1 text)
    else item_at text >>= λ first. items_within most first.1 >>= λ others.
    Ok (first.0 ∷ others.0, others.1)

-- a class after its `[`. A `]` that stands first is a symbol of it
unfoldable pub members_at : Bool → List ℕ → Result (Expression × List ℕ) Unsaid
members_at negated text =
    item_at text >>= λ first. items_within (length first.1) first.1 >>= λ others.
    Ok (bracketed negated first.0 others.0, others.1)

unfoldable pub bracketed_at : List ℕ → Result (Expression × List ℕ) Unsaid
bracketed_at text =
    if nat_le 1 (length text) && slice_index text 0 == 94 then members_at true (drop 1 text)
    else members_at false text

-- a number of a count
unfoldable pub number_in : List ℕ → Result ℕ Unsaid
number_in digits =
    option_map_or (λ number. if nat_le number 32 then Ok number else Err why.LargeCount)
    (number_of 9 digits) (Err why.BadCount)

unfoldable pub repeats_of : List ℕ → List ℕ → Result Repeats Unsaid
repeats_of lows highs =
    number_in lows >>= λ low.
    if length highs == 0 then Ok (AtLeast low)
    else number_in highs >>= λ high.
    if nat_lt high low then Err why.BadCount else Ok (Between low high)

unfoldable pub repeats_in : List ℕ → Result Repeats Unsaid
repeats_in text =
    option_map_or (λ parts. repeats_of parts.0 parts.1) (split_at_first 44 text)
    (repeats_of text text)

-- a count after its `{`
unfoldable pub repeats_at : List ℕ → Result (Repeats × List ℕ) Unsaid
repeats_at text =
    option_map_or (λ parts. repeats_in parts.0 >>= λ repeats. Ok (repeats, parts.1))
    (split_at_first 125 text) (Err why.BadCount)

-- ---- what was read so far

-- the alternatives that are done, and of the present one what stands before its last part, and this
pub record Level : Type 0 where
  pub done : Option Expression
  pub before : Expression
  pub last : Expression

-- and what stands around the present parentheses, the innermost first
pub record State : Type 0 where
  pub level : Level
  pub outer : List Level

abbrev pub fresh : Level
fresh = record { done = None; before = blank; last = blank }

abbrev pub start : State
start = record { level = fresh; outer = [] }

-- one after the other, or the one that isn't blank
unfoldable pub joined : Expression → Expression → Expression
joined first second =
    if is_blank first then second else if is_blank second then first else concatenated first second

unfoldable pub with_alternative : Option Expression → Expression → Expression
with_alternative None last = last
with_alternative (Some done) last = alternated done last

-- the alternatives, with the present one
unfoldable pub finished : Level → Expression
finished level = with_alternative level.done (joined level.before level.last)

abbrev pub added : Level → Expression → Level
added level part =
    record { done = level.done; before = joined level.before level.last; last = part }

-- what is anchored at the beginning stands first or after a `^`, and nothing stands after what is
-- anchored at the end
abbrev pub is_closed_to : Level → Expression → Bool
is_closed_to level part =
    has_end level.last || (has_begin part && not (is_blank level.last) && not (is_begin level.last))

-- after one more part
unfoldable pub with_part : Level → Expression → Result Level Unsaid
with_part level part =
    if is_closed_to level part then Err why.InnerAnchor else Ok (added level part)

unfoldable pub with_begin : Level → Result Level Unsaid
with_begin level =
    if is_begin level.last then Ok level
    else if is_blank level.last
    then Ok (record { done = level.done; before = level.before; last = begin })
    else Err why.InnerAnchor

unfoldable pub with_end : Level → Level
with_end level = if is_end level.last then level else added level end

abbrev pub has_nothing_last : Level → Bool
has_nothing_last level = is_blank level.last || is_begin level.last || is_end level.last

abbrev pub is_anchored_last : Level → Bool
is_anchored_last level = has_begin level.last || has_end level.last

unfoldable pub with_repeats : Level → Repeats → Result Level Unsaid
with_repeats level repeats =
    if has_nothing_last level then Err why.NothingToRepeat
    else if is_anchored_last level then Err why.InnerAnchor
    else Ok (record {
      done = level.done;
      before = level.before;
      last = duplicated level.last repeats;
    })

unfoldable pub with_bar : Level → Level
with_bar level = record { done = Some (finished level); before = blank; last = blank }

unfoldable pub opened : State → Result State Unsaid
opened state =
    if nat_le 30 (length state.outer) then Err why.TooDeep
    else Ok (record { level = fresh; outer = state.level ∷ state.outer })

abbrev pub closed_by : Expression → List Level → Result State Unsaid
closed_by inner [] = Err why.Unopened
closed_by inner (around ∷ outer) =
    with_part around (subexpression inner) >>= λ level. Ok (record { level = level; outer = outer })

unfoldable pub closed : State → Result State Unsaid
closed state = closed_by (finished state.level) state.outer

abbrev pub in_level : State → Result Level Unsaid → Result State Unsaid
in_level state level = level >>= λ next. Ok (record { level = next; outer = state.outer })

-- a symbol that represents itself
unfoldable pub with_symbol : State → ℕ → Result State Unsaid
with_symbol state byte =
    if is_symbol byte then in_level state (with_part state.level (symbol byte))
    else Err why.NotSymbol

-- a sign or a symbol by itself
unfoldable pub with_sign : State → ℕ → Result State Unsaid
with_sign state byte =
    if byte == 94 then in_level state (with_begin state.level)
    else if byte == 36 then in_level state (Ok (with_end state.level))
    else if byte == 124 then in_level state (Ok (with_bar state.level))
    else if byte == 40 then opened state
    else if byte == 41 then closed state
    else if byte == 42 then in_level state (with_repeats state.level Any)
    else if byte == 43 then in_level state (with_repeats state.level More)
    else if byte == 63 then in_level state (with_repeats state.level Optional)
    else if byte == 46 then in_level state (with_part state.level period)
    else with_symbol state byte

abbrev pub and_rest : List ℕ → Result State Unsaid → Result (State × List ℕ) Unsaid
and_rest rest state = state >>= λ next. Ok (next, rest)

abbrev pub with_escaped : State → List ℕ → Result (State × List ℕ) Unsaid
with_escaped state rest =
    escaped_at rest >>= λ found. and_rest found.1 (with_symbol state found.0)

abbrev pub with_bracketed : State → List ℕ → Result (State × List ℕ) Unsaid
with_bracketed state rest =
    bracketed_at rest >>= λ found.
    and_rest found.1 (in_level state (with_part state.level found.0))

abbrev pub with_counted : State → List ℕ → Result (State × List ℕ) Unsaid
with_counted state rest =
    repeats_at rest >>= λ found.
    and_rest found.1 (in_level state (with_repeats state.level found.0))

-- what begins with this byte, and the rest after it
unfoldable pub step : State → ℕ → List ℕ → Result (State × List ℕ) Unsaid
step state byte rest =
    if byte == 92 then with_escaped state rest
    else if byte == 91 then with_bracketed state rest
    else if byte == 123 then with_counted state rest
    else and_rest rest (with_sign state byte)

abbrev pub ended_by : Expression → List Level → Result Expression Unsaid
ended_by expression [] = Ok expression
ended_by expression (around ∷ outer) = Err why.Unclosed

-- at the end no parenthesis is open
unfoldable pub ended : State → Result Expression Unsaid
ended state = ended_by (finished state.level) state.outer

-- at most so many steps: a text has no more than it has bytes
unfoldable pub read_within : ℕ → State → List ℕ → Result Expression Unsaid
read_within zero state text = ended state
read_within (suc most) state [] = ended state
read_within (suc most) state (byte ∷ rest) =
    step state byte rest >>= λ next. read_within most next.0 next.1

-- an expression of at most 400 bytes, or the first fault
unfoldable pub reading : List ℕ → Result Expression Unsaid
reading text =
    if nat_lt 400 (length text) then Err why.TooLong else read_within (length text) start text
