-- Reading bytes from the left, with the first fault that is met. The trees of Spelling say what a
-- pattern is and what its flat form is; the contract of `Pattern::read` says that both agree.
use Rattle.std.specs.Prelude.{ℕ, zero, suc, ◌+◌, ◌-◌, Bool, true, false, ◌==◌, ◌&&◌, ◌||◌, not}
use Rattle.std.specs.Prelude.{nat_lt, nat_le, if◌then◌else◌, List, [], ◌∷◌, length, drop}
use Rattle.std.specs.Prelude.{slice_index, Option, Some, None, Result, Ok, Err, position}
use Rattle.std.specs.Prelude.{option_map, slice_get}
use Rattle.std.specs.Option.{option_and_then, option_map_or}
use Rattle.std.specs.List.{list_any}
use Rattle.basics.specs.Symbol.{is_symbol}
use Rattle.basics.specs.Lines.{split_at_first}
use Rattle.pol_pattern.specs.Flat.{Class, class_where, class, group, Term, empty, put, Terms, none}
use Rattle.pol_pattern.specs.Flat.{alt, join_terms, join_term, terms_size}
use Rattle.pol_pattern.specs.Spelling.{only, any_symbol, repeat_factors, has_counts, most_bytes}
use Rattle.pol_pattern.specs.Spelling.{exact_counts, range_counts}
use Rattle.pol_pattern.specs.Upgrading.{upgraded}
use Rattle.pol_pattern.specs.declared.token.Repeat.{Repeat}
use Rattle.pol_pattern.specs.declared.token.Repeat.TheVariants.{Star, Plus, Question, Counted}
use Rattle.pol_pattern.specs.declared.token.Token.{Token}
use Rattle.pol_pattern.specs.declared.token.Token.TheVariants as tokens
use Rattle.pol_pattern.specs.declared.version.Version.{Version}
use Rattle.pol_pattern.specs.declared.version.Version.TheVariants.{One, Two}
use Rattle.pol_pattern.specs.declared.fault.PatternFault.{PatternFault}
use Rattle.pol_pattern.specs.declared.fault.PatternFault.TheVariants as faults

infixl 10 ◌>>=◌
abbrev pub ◌>>=◌ : {A B : Type 0} → Result A PatternFault → (A → Result B PatternFault)
    → Result B PatternFault
(Ok x) >>= f = f x
(Err e) >>= f = Err e

-- ---- classes: what stands in front of the bytes, and how many of them spell it

-- a symbol of a class
unfoldable pub class_symbol_at : List ℕ → Option (ℕ × ℕ)
class_symbol_at bytes =
    if slice_index bytes 0 == 92 then option_map (λ symbol. (symbol, 2)) (slice_get bytes 1)
    else if slice_index bytes 0 == 93 || slice_index bytes 0 == 45 then None
    else option_map (λ symbol. (symbol, 1)) (slice_get bytes 0)

-- an item, as its first symbol and its last
unfoldable pub item_at : List ℕ → Option ((ℕ × ℕ) × ℕ)
item_at bytes = option_and_then (λ first.
    if slice_index bytes first.1 == 45
    then option_and_then (λ last. if nat_le first.0 last.0
    then Some ((first.0, last.0), first.1 + 1 + last.1)
    else None) (class_symbol_at (drop (first.1 + 1) bytes))
    else Some ((first.0, first.0), first.1))
    (class_symbol_at bytes)

-- the item put before those that follow it
abbrev pub with_item : ℕ × ℕ → Option (List (ℕ × ℕ) × ℕ) → Option (List (ℕ × ℕ) × ℕ)
with_item item None = None
with_item item (Some rest) = Some (item ∷ rest.0, rest.1)

-- the items up to the `]`, after these many bytes are passed over, and the place after the `]`,
-- where the first byte has this place
unfoldable pub items_from : ℕ → ℕ → List ℕ → Option (List (ℕ × ℕ) × ℕ)
items_from place skip [] = None
items_from place (suc skip) (byte ∷ rest) = items_from (place + 1) skip rest
items_from place zero (byte ∷ rest) =
    if byte == 93 then Some ([], place + 1)
    else option_and_then (λ item. with_item item.0 (items_from (place + 1) (item.1 - 1) rest))
    (item_at (byte ∷ rest))

-- one of the items has the symbol
abbrev pub is_among : List (ℕ × ℕ) → ℕ → Bool
is_among items byte = list_any (λ item. nat_le item.0 byte && nat_le byte item.1) items

abbrev pub class_of_items : Bool → List (ℕ × ℕ) → Class
class_of_items negated items =
    if negated then class_where (λ byte. not (is_among items byte))
    else class_where (is_among items)

abbrev pub class_unless_empty : Bool → List (ℕ × ℕ) × ℕ → Option (Class × ℕ)
class_unless_empty negated ([], end) = None
class_unless_empty negated (item ∷ items, end) = Some (class_of_items negated (item ∷ items), end)

-- a class, after its `[`
unfoldable pub class_at : List ℕ → Option (Class × ℕ)
class_at bytes =
    if slice_index bytes 0 == 94
    then option_and_then (class_unless_empty true) (items_from 1 0 (drop 1 bytes))
    else option_and_then (class_unless_empty false) (items_from 0 0 bytes)

-- ---- counts: how many times a unit may stand, at least and at most

-- the counts that stand between braces: one number, or two with a `,` between them
abbrev pub counts_in : List ℕ → Option (ℕ × ℕ)
counts_in text =
    option_map_or (λ numbers. range_counts numbers.0 numbers.1) (split_at_first 44 text)
    (exact_counts text)

-- the counts after a `{`, and how many bytes they take with the `}`
unfoldable pub counts_at : List ℕ → Option ((ℕ × ℕ) × ℕ)
counts_at bytes = option_and_then (λ parts.
    option_map (λ counts. (counts, length parts.0 + 1)) (counts_in parts.0))
    (split_at_first 125 bytes)

-- the token that begins with a `{` at this place
unfoldable pub counted_at : Bool → ℕ → List ℕ → Result (Token × ℕ) PatternFault
counted_at has_atom place rest =
    if has_atom
    then option_map_or
    (λ found. Ok (tokens.Repeat (Counted found.0.0 found.0.1), found.1 + 1)) (counts_at rest)
    (Err (faults.BadRepeat place))
    else Err (faults.NothingToRepeat place)

-- ---- tokens

-- the token that begins with this byte at this place, and how many bytes it takes, where an atom
-- stands before it or none does
unfoldable pub token_at : Version → Bool → ℕ → ℕ → List ℕ → Result (Token × ℕ) PatternFault
token_at version has_atom place byte rest =
    if byte == 40 then Ok (tokens.Open, 1)
    else if byte == 41 then Ok (tokens.Close, 1)
    else if byte == 124 then Ok (tokens.Bar, 1)
    else if byte == 42 then Ok (tokens.Repeat Star, 1)
    else if byte == 43 then Ok (tokens.Repeat Plus, 1)
    else if byte == 63 then Ok (tokens.Repeat Question, 1)
    else if byte == 46 then Ok (tokens.Atom any_symbol, 1)
    else if byte == 91
    then option_map_or (λ found. Ok (tokens.Atom found.0, found.1 + 1)) (class_at rest)
    (Err (faults.BadClass place))
    else if byte == 92
    then option_map_or (λ symbol. Ok (tokens.Atom (only symbol), 2)) (slice_get rest 0)
    (Err (faults.BadEscape place))
    else if has_counts version && byte == 123 then counted_at has_atom place rest
    else if has_counts version && byte == 125 then Err (faults.BadRepeat place)
    else Ok (tokens.Atom (only byte), 1)

-- what has to be known of the tokens before a place: where the parentheses that are open stand, the
-- last one first, and whether an atom stands before it in its sequence
pub record Context : Type 0 where
  pub opened : List ℕ
  pub has_atom : Bool

abbrev pub outermost : Context
outermost = record { opened = []; has_atom = false }

abbrev pub closed : ℕ → List ℕ → Result Context PatternFault
closed place [] = Err (faults.Unopened place)
closed place (last ∷ others) = Ok (record { opened = others; has_atom = true })

-- the context after a token at this place
unfoldable pub context_after : ℕ → Token → Context → Result Context PatternFault
context_after place (tokens.Atom c) context = Ok (record context { has_atom = true })
context_after place (tokens.Repeat repeat) context =
    if context.has_atom then Ok context else Err (faults.NothingToRepeat place)
context_after place tokens.Bar context = Ok (record context { has_atom = false })
context_after place tokens.Open context =
    if nat_le 32 (length context.opened) then Err faults.TooDeep
    else Ok (record { opened = place ∷ context.opened; has_atom = false })
context_after place tokens.Close context = closed place context.opened

-- at the end no parenthesis is open
abbrev pub at_end : List ℕ → Result (List Token) PatternFault
at_end [] = Ok []
at_end (last ∷ others) = Err (faults.Unclosed last)

-- the tokens of the bytes, of which the first has this place, after these many are passed over
unfoldable pub tokens_from : Version → ℕ → ℕ → Context → List ℕ
    → Result (List Token) PatternFault
tokens_from version place skip context [] = at_end context.opened
tokens_from version place (suc skip) context (byte ∷ rest) =
    tokens_from version (place + 1) skip context rest
tokens_from version place zero context (byte ∷ rest) =
    token_at version context.has_atom place byte rest
    >>= λ found. context_after place found.0 context >>= λ next.
    tokens_from version (place + 1) (found.1 - 1) next rest >>= λ others. Ok (found.0 ∷ others)

-- ---- the flat form

-- what was read of some alternatives: those that are done, and of the present one the factors
-- before its last repetition and the factors of that repetition
pub record Level : Type 0 where
  pub done : Terms
  pub before : Term
  pub last : Term

abbrev pub fresh : Level
fresh = record { done = none; before = empty; last = empty }

abbrev pub present : Level → Term
present level = join_term level.before level.last

abbrev pub with_atom : Level → Term → Level
with_atom level factors = record { done = level.done; before = present level; last = factors }

abbrev pub with_repeat : Level → Repeat → Level
with_repeat level repeat = record level { last = repeat_factors repeat level.last }

abbrev pub finished : Level → Terms
finished level = join_terms level.done (alt (present level) none)

abbrev pub with_bar : Level → Level
with_bar level = record { done = finished level; before = empty; last = empty }

-- the flat form of tokens, after what was read of the present level and of those around it
unfoldable pub build : Level → List Level → List Token → Terms
build level outer [] = finished level
build level outer (tokens.Atom c ∷ rest) = build (with_atom level (put (class c) empty)) outer rest
build level outer (tokens.Repeat repeat ∷ rest) = build (with_repeat level repeat) outer rest
build level outer (tokens.Bar ∷ rest) = build (with_bar level) outer rest
build level outer (tokens.Open ∷ rest) = build fresh (level ∷ outer) rest
build level [] (tokens.Close ∷ rest) = finished level
build level (around ∷ outer) (tokens.Close ∷ rest) =
    build (with_atom around (put (group (finished level)) empty)) outer rest

-- ---- patterns

abbrev pub sized : Terms → Result Terms PatternFault
sized flat = if nat_lt 400 (terms_size flat) then Err faults.TooLarge else Ok flat

-- the byte is no symbol
abbrev pub is_unprintable : ℕ → Bool
is_unprintable byte = not (is_symbol byte)

-- the flat form of a pattern of a version, or the first fault
unfoldable pub reading_by : Version → List ℕ → Result Terms PatternFault
reading_by version bytes =
    if nat_lt (most_bytes version) (length bytes) then Err faults.TooLong
    else option_map_or (λ place. Err (faults.Unprintable place)) (position is_unprintable bytes)
    (tokens_from version 0 0 outermost bytes >>= λ tokens. sized (build fresh [] tokens))

-- patterns are those of version 2, where no other version is named
abbrev pub reading : List ℕ → Result Terms PatternFault
reading = reading_by Two

-- a pattern is seen by its source: the bytes where they have a reading, or its fault
unfoldable pub pattern_of : List ℕ → Result (List ℕ) PatternFault
pattern_of bytes = reading bytes >>= λ flat. Ok bytes

-- a pattern of version 1 is seen by its new source, which version 2 reads
unfoldable pub pattern_of_old : List ℕ → Result (List ℕ) PatternFault
pattern_of_old bytes = reading_by One bytes >>= λ flat. pattern_of (upgraded bytes)
