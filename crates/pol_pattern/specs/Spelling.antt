-- Which bytes spell which pattern: the grammar, as syntax trees, with what each spells and its flat
-- form (docs/DEFINITIONS.md, "Patterns").
--
--   pattern = alts
--   alts    = seq { "|" seq }
--   seq     = { unit }
--   unit    = atom { suffix }
--   suffix  = "*" | "+" | "?", and in version 2 also "{" number "}" | "{" number "," number "}"
--   number  = digit [ digit ]
--   atom    = literal | "." | class | "(" alts ")" | "\" symbol
--   literal = any symbol but | * + ? . [ ( ) \ and, in version 2, { }
--   class   = "[" [ "^" ] item { item } "]"
--   item    = csym | csym "-" csym
--   csym    = any symbol but ] \ -  | "\" symbol
use Rattle.std.specs.Prelude.{◌≡◌, ◌≤◌, ℕ, ◌+◌, ◌==◌, max, nat_le, Bool, true, false, ◌&&◌, ◌||◌}
use Rattle.std.specs.Prelude.{zero, suc, ◌-◌, not, IsTrue, List, [], ◌∷◌, ◌++◌, length, codes}
use Rattle.std.specs.Prelude.{if◌then◌else◌, Option, Some, None}
use Rattle.std.specs.List.{list_any, list_all}
use Rattle.std.specs.Option.{is_some}
use Rattle.basics.specs.Symbol.{is_symbol}
use Rattle.basics.specs.Number.{number_of}
use Rattle.pol_pattern.specs.Flat.{Class, class_where, class, group, star, Term, empty, put, Terms}
use Rattle.pol_pattern.specs.Flat.{none, alt, join_term, terms_size}
use Rattle.pol_pattern.specs.Sets.{InTerms}
use Rattle.pol_pattern.specs.declared.token.Repeat.{Repeat}
use Rattle.pol_pattern.specs.declared.token.Repeat.TheVariants.{Star, Plus, Question, Counted}
use Rattle.pol_pattern.specs.declared.version.Version.{Version}
use Rattle.pol_pattern.specs.declared.version.Version.TheVariants.{One, Two}

-- ---- syntax trees

-- a symbol of a class: as it is, or after a `\`
pub data ClassSymbol : Type 0 where
  plain : ℕ → ClassSymbol
  quoted : ℕ → ClassSymbol

-- an item of a class: one symbol, or the symbols from one to another
pub data Item : Type 0 where
  one : ClassSymbol → Item
  range : ClassSymbol → ClassSymbol → Item

-- what may follow an atom; the numbers by their digits
pub data Suffix : Type 0 where
  asterisk : Suffix
  plus : Suffix
  question : Suffix
  exactly : List ℕ → Suffix
  between : List ℕ → List ℕ → Suffix

mutual
  pub data Alternatives : Type 0 where
    single : Sequence → Alternatives
    or : Sequence → Alternatives → Alternatives

  pub data Sequence : Type 0 where
    nothing : Sequence
    next : Repetition → Sequence → Sequence

  pub data Repetition : Type 0 where
    once : Atom → Repetition
    repeated : Repetition → Suffix → Repetition

  pub data Atom : Type 0 where
    literal : ℕ → Atom
    dot : Atom
    -- whether it is negated, its first item, and the others
    bracket : Bool → Item → List Item → Atom
    parentheses : Alternatives → Atom
    escaped : ℕ → Atom

-- ---- what each spells

abbrev pub class_symbol_bytes : ClassSymbol → List ℕ
class_symbol_bytes (plain symbol) = symbol ∷ []
class_symbol_bytes (quoted symbol) = 92 ∷ symbol ∷ []

abbrev pub item_bytes : Item → List ℕ
item_bytes (one symbol) = class_symbol_bytes symbol
item_bytes (range first final) = class_symbol_bytes first ++ 45 ∷ class_symbol_bytes final

abbrev pub items_bytes : List Item → List ℕ
items_bytes [] = []
items_bytes (item ∷ items) = item_bytes item ++ items_bytes items

abbrev pub negation_bytes : Bool → List ℕ
negation_bytes true = 94 ∷ []
negation_bytes false = []

abbrev pub suffix_bytes : Suffix → List ℕ
suffix_bytes asterisk = 42 ∷ []
suffix_bytes plus = 43 ∷ []
suffix_bytes question = 63 ∷ []
suffix_bytes (exactly count) = 123 ∷ (count ++ 125 ∷ [])
suffix_bytes (between low high) = 123 ∷ (low ++ 44 ∷ (high ++ 125 ∷ []))

abbrev mutual
  pub alternatives_bytes : Alternatives → List ℕ
  alternatives_bytes (single sequence) = sequence_bytes sequence
  alternatives_bytes (or sequence others) =
      sequence_bytes sequence ++ 124 ∷ alternatives_bytes others

  pub sequence_bytes : Sequence → List ℕ
  sequence_bytes nothing = []
  sequence_bytes (next first others) = repetition_bytes first ++ sequence_bytes others

  pub repetition_bytes : Repetition → List ℕ
  repetition_bytes (once atom) = atom_bytes atom
  repetition_bytes (repeated inner suffix) = repetition_bytes inner ++ suffix_bytes suffix

  pub atom_bytes : Atom → List ℕ
  atom_bytes (literal symbol) = symbol ∷ []
  atom_bytes dot = 46 ∷ []
  atom_bytes (bracket negated first others) =
      91 ∷ (negation_bytes negated ++ item_bytes first ++ items_bytes others ++ 93 ∷ [])
  atom_bytes (parentheses inner) = 40 ∷ (alternatives_bytes inner ++ 41 ∷ [])
  atom_bytes (escaped symbol) = 92 ∷ symbol ∷ []

-- ---- which trees the grammar allows

-- how many bytes a pattern may have
abbrev pub most_bytes : Version → ℕ
most_bytes One = 200
most_bytes Two = 400

-- whether braces count repeats, and don't represent themselves
abbrev pub has_counts : Version → Bool
has_counts One = false
has_counts Two = true

abbrev pub special_symbols : Version → List ℕ
special_symbols One = codes "|*+?.[()\\"
special_symbols Two = codes "|*+?.[()\\{}"

-- the symbols that don't represent themselves
abbrev pub is_special : Version → ℕ → Bool
is_special version byte = list_any (λ special. byte == special) (special_symbols version)

-- the counts of a repeat: no more at least than at most, and at most 32
abbrev pub counts_of : Option ℕ → Option ℕ → Option (ℕ × ℕ)
counts_of (Some low) (Some high) =
    if nat_le low high && nat_le high 32 then Some (low, high) else None
counts_of (Some low) None = None
counts_of None high = None

abbrev pub exact_counts : List ℕ → Option (ℕ × ℕ)
exact_counts count = counts_of (number_of 2 count) (number_of 2 count)

abbrev pub range_counts : List ℕ → List ℕ → Option (ℕ × ℕ)
range_counts low high = counts_of (number_of 2 low) (number_of 2 high)

-- each number has one digit or two
abbrev pub is_right_suffix : Version → Suffix → Bool
is_right_suffix version asterisk = true
is_right_suffix version plus = true
is_right_suffix version question = true
is_right_suffix version (exactly count) = has_counts version && is_some (exact_counts count)
is_right_suffix version (between low high) = has_counts version && is_some (range_counts low high)

-- a `]`, a `\` or a `-` stands in a class only after a `\`
abbrev pub is_right_class_symbol : ClassSymbol → Bool
is_right_class_symbol (plain symbol) =
    is_symbol symbol && not (symbol == 93 || symbol == 92 || symbol == 45)
is_right_class_symbol (quoted symbol) = is_symbol symbol

abbrev pub class_symbol : ClassSymbol → ℕ
class_symbol (plain symbol) = symbol
class_symbol (quoted symbol) = symbol

-- a range doesn't end before it begins
abbrev pub is_right_item : Item → Bool
is_right_item (one symbol) = is_right_class_symbol symbol
is_right_item (range first final) =
    is_right_class_symbol first && is_right_class_symbol final
    && nat_le (class_symbol first) (class_symbol final)

abbrev pub begins_with_caret : Item → Bool
begins_with_caret (one (plain symbol)) = symbol == 94
begins_with_caret (one (quoted symbol)) = false
begins_with_caret (range (plain symbol) final) = symbol == 94
begins_with_caret (range (quoted symbol) final) = false

-- a `^` directly after the `[` always negates
abbrev mutual
  pub is_right_alternatives : Version → Alternatives → Bool
  is_right_alternatives version (single sequence) = is_right_sequence version sequence
  is_right_alternatives version (or sequence others) =
      is_right_sequence version sequence && is_right_alternatives version others

  pub is_right_sequence : Version → Sequence → Bool
  is_right_sequence version nothing = true
  is_right_sequence version (next first others) =
      is_right_repetition version first && is_right_sequence version others

  pub is_right_repetition : Version → Repetition → Bool
  is_right_repetition version (once atom) = is_right_atom version atom
  is_right_repetition version (repeated inner suffix) =
      is_right_repetition version inner && is_right_suffix version suffix

  pub is_right_atom : Version → Atom → Bool
  is_right_atom version (literal symbol) = is_symbol symbol && not (is_special version symbol)
  is_right_atom version dot = true
  is_right_atom version (bracket negated first others) =
      (is_right_item first && list_all is_right_item others)
      && (negated || not (begins_with_caret first))
  is_right_atom version (parentheses inner) = is_right_alternatives version inner
  is_right_atom version (escaped symbol) = is_symbol symbol

-- how many parentheses are open at once
abbrev mutual
  pub alternatives_depth : Alternatives → ℕ
  alternatives_depth (single sequence) = sequence_depth sequence
  alternatives_depth (or sequence others) =
      max (sequence_depth sequence) (alternatives_depth others)

  pub sequence_depth : Sequence → ℕ
  sequence_depth nothing = 0
  sequence_depth (next first others) = max (repetition_depth first) (sequence_depth others)

  pub repetition_depth : Repetition → ℕ
  repetition_depth (once atom) = atom_depth atom
  repetition_depth (repeated inner suffix) = repetition_depth inner

  pub atom_depth : Atom → ℕ
  atom_depth (literal symbol) = 0
  atom_depth dot = 0
  atom_depth (bracket negated first others) = 0
  atom_depth (parentheses inner) = alternatives_depth inner + 1
  atom_depth (escaped symbol) = 0

-- ---- the flat form

-- the item names the symbol
abbrev pub names : ℕ → Item → Bool
names byte (one symbol) = byte == class_symbol symbol
names byte (range first final) =
    nat_le (class_symbol first) byte && nat_le byte (class_symbol final)

-- a class is the symbols that its items name, or, negated, those that they don't
abbrev pub bracket_class : Bool → List Item → Class
bracket_class true items = class_where (λ byte. not (list_any (names byte) items))
bracket_class false items = class_where (λ byte. list_any (names byte) items)

abbrev pub only : ℕ → Class
only symbol = class_where (λ byte. byte == symbol)

abbrev pub any_symbol : Class
any_symbol = class_where (λ byte. true)

-- the factors as alternatives: those of the group where they are exactly one group
abbrev pub alternatives_of : Term → Terms
alternatives_of (put (group terms) empty) = terms
alternatives_of factors = alt factors none

-- one group of the factors and of nothing
abbrev pub optional : Term → Term
optional factors = put (group (alt factors (alt empty none))) empty

-- the factors, so many times one after another
unfoldable pub copies : ℕ → Term → Term
copies zero factors = empty
copies (suc count) factors = join_term factors (copies count factors)

-- U* is one star; U+ is U and then U*; U? is a group of U and of nothing; U{m,n} is m times U and
-- then n - m times that group
abbrev pub repeat_factors : Repeat → Term → Term
repeat_factors Star factors = put (star (alternatives_of factors)) empty
repeat_factors Plus factors = join_term factors (put (star (alternatives_of factors)) empty)
repeat_factors Question factors = optional factors
repeat_factors (Counted low high) factors =
    join_term (copies low factors) (copies (high - low) (optional factors))

abbrev pub counted : Option (ℕ × ℕ) → Repeat
counted None = Counted 0 0
counted (Some counts) = Counted counts.0 counts.1

-- what a suffix says of its unit
abbrev pub suffix_repeat : Suffix → Repeat
suffix_repeat asterisk = Star
suffix_repeat plus = Plus
suffix_repeat question = Question
suffix_repeat (exactly count) = counted (exact_counts count)
suffix_repeat (between low high) = counted (range_counts low high)

-- nothing is simplified
abbrev mutual
  pub alternatives_terms : Alternatives → Terms
  alternatives_terms (single sequence) = alt (sequence_factors sequence) none
  alternatives_terms (or sequence others) =
      alt (sequence_factors sequence) (alternatives_terms others)

  pub sequence_factors : Sequence → Term
  sequence_factors nothing = empty
  sequence_factors (next first others) =
      join_term (repetition_factors first) (sequence_factors others)

  pub repetition_factors : Repetition → Term
  repetition_factors (once atom) = atom_factors atom
  repetition_factors (repeated inner suffix) =
      repeat_factors (suffix_repeat suffix) (repetition_factors inner)

  pub atom_factors : Atom → Term
  atom_factors (literal symbol) = put (class (only symbol)) empty
  atom_factors dot = put (class any_symbol) empty
  atom_factors (bracket negated first others) =
      put (class (bracket_class negated (first ∷ others))) empty
  atom_factors (parentheses inner) = put (group (alternatives_terms inner)) empty
  atom_factors (escaped symbol) = put (class (only symbol)) empty

-- ---- patterns

-- at most 200 bytes in version 1 and 400 in version 2, 32 parentheses open at once and 400 factors
abbrev pub SpellsBy : Version → List ℕ → Terms → Type 0
SpellsBy version bytes flat =
    (tree : Alternatives) × IsTrue (is_right_alternatives version tree)
    × (alternatives_bytes tree ≡ bytes) × (alternatives_terms tree ≡ flat)
    × (length bytes ≤ most_bytes version) × (alternatives_depth tree ≤ 32)
    × (terms_size flat ≤ 400)

-- the pattern that the source spells holds the text
abbrev pub HoldsBy : Version → List ℕ → List ℕ → Type 0
HoldsBy version source text = (flat : Terms) × SpellsBy version source flat × InTerms flat text

-- patterns are those of version 2, where no other version is named
abbrev pub Spells : List ℕ → Terms → Type 0
Spells = SpellsBy Two

abbrev pub Holds : List ℕ → List ℕ → Type 0
Holds = HoldsBy Two
