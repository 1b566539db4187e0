-- Regular expressions as POSIX has its extended ones (IEEE Std 1003.1-2017, section 9.4), as far as
-- patterns can say them: their trees, and which text spells which.
--
--   expression = branch { "|" branch }
--   branch     = { piece }
--   piece      = atom { repeats }
--   repeats    = "*" | "+" | "?" | "{" number "}" | "{" number "," [ number ] "}"
--   atom       = symbol | "\" symbol | "." | bracket | "(" expression ")"
--              | "^" { "^" } | "$" { "$" }
--   bracket    = "[" [ "^" ] item { item } "]"
--   item       = symbol | symbol "-" symbol
use Rattle.std.specs.Prelude.{◌≡◌, ℕ, ◌==◌, Bool, true, false, ◌&&◌, ◌||◌, not, nat_le, IsTrue}
use Rattle.std.specs.Prelude.{List, [], ◌∷◌, ◌++◌, ◌⊎◌, Some, codes, slice_index}
use Rattle.std.specs.List.{list_any, list_all}
use Rattle.basics.specs.Symbol.{is_symbol}
use Rattle.basics.specs.Number.{number_of}
use Rattle.posix_expression.specs.declared.tree.Item.{Item}
use Rattle.posix_expression.specs.declared.tree.Item.TheVariants.{One, Range}
use Rattle.posix_expression.specs.declared.tree.Repeats.{Repeats}
use Rattle.posix_expression.specs.declared.tree.Repeats.TheVariants.{Any, More, Optional, Between}
use Rattle.posix_expression.specs.declared.tree.Repeats.TheVariants.{AtLeast}

-- ---- trees

pub data Expression : Type 0 where
  -- the empty branch
  blank : Expression
  symbol : ℕ → Expression
  -- a `.`
  period : Expression
  -- whether it is negated, its first item, and the others
  bracketed : Bool → Item → List Item → Expression
  -- a `^` and a `$`
  begin : Expression
  end : Expression
  -- in parentheses
  subexpression : Expression → Expression
  duplicated : Expression → Repeats → Expression
  -- one after the other
  concatenated : Expression → Expression → Expression
  -- one or the other
  alternated : Expression → Expression → Expression

abbrev pub is_blank : Expression → Bool
is_blank blank = true
is_blank other = false

abbrev pub is_begin : Expression → Bool
is_begin begin = true
is_begin other = false

abbrev pub is_end : Expression → Bool
is_end end = true
is_end other = false

abbrev pub is_alternated : Expression → Bool
is_alternated (alternated first second) = true
is_alternated other = false

-- an atom, or one with repeats; no anchor
abbrev pub is_piece : Expression → Bool
is_piece blank = false
is_piece begin = false
is_piece end = false
is_piece (concatenated first second) = false
is_piece (alternated first second) = false
is_piece other = true

-- ---- which trees the grammar allows, with the limits of patterns: counts of at most 32

abbrev pub is_formed_item : Item → Bool
is_formed_item (One byte) = is_symbol byte
is_formed_item (Range first last) = is_symbol first && is_symbol last && nat_le first last

abbrev pub is_formed_count : Repeats → Bool
is_formed_count (Between low high) = nat_le low high && nat_le high 32
is_formed_count (AtLeast low) = nat_le low 32
is_formed_count other = true

-- repeats bind closest, then what stands one after the other, and then the `|`
abbrev pub is_formed : Expression → Bool
is_formed blank = true
is_formed (symbol byte) = is_symbol byte
is_formed period = true
is_formed (bracketed negated first others) =
    is_formed_item first && list_all is_formed_item others
is_formed begin = true
is_formed end = true
is_formed (subexpression inner) = is_formed inner
is_formed (duplicated part repeats) =
    is_formed part && (is_piece part && is_formed_count repeats)
is_formed (concatenated first second) =
    is_formed first && (is_formed second
    && (not (is_alternated first) && not (is_alternated second)))
is_formed (alternated first second) = is_formed first && is_formed second

-- ---- where anchors stand

-- something in it is anchored at the beginning, or at the end
abbrev pub has_begin : Expression → Bool
has_begin begin = true
has_begin (subexpression inner) = has_begin inner
has_begin (duplicated part repeats) = has_begin part
has_begin (concatenated first second) = has_begin first || has_begin second
has_begin (alternated first second) = has_begin first || has_begin second
has_begin other = false

abbrev pub has_end : Expression → Bool
has_end end = true
has_end (subexpression inner) = has_end inner
has_end (duplicated part repeats) = has_end part
has_end (concatenated first second) = has_end first || has_end second
has_end (alternated first second) = has_end first || has_end second
has_end other = false

-- only at edges: nothing stands before a `^` but another, and nothing after a `$`, and neither is
-- repeated. Patterns say no others
abbrev pub is_edged : Expression → Bool
is_edged (subexpression inner) = is_edged inner
is_edged (duplicated part repeats) = is_edged part && not (has_begin part) && not (has_end part)
is_edged (concatenated first second) =
    is_edged first && (is_edged second
    && ((is_begin first || not (has_begin second)) && (is_end second || not (has_end first))))
is_edged (alternated first second) = is_edged first && is_edged second
is_edged other = true

abbrev pub is_said : Expression → Bool
is_said expression = is_formed expression && is_edged expression

-- ---- what spells each

-- the symbols that don't represent themselves
abbrev pub is_special : ℕ → Bool
is_special byte = list_any (λ special. byte == special) (codes "^$|()*+?.[{\\")

-- what may mean something of its own after a `\`
abbrev pub is_reserved : ℕ → Bool
is_reserved byte =
    (nat_le 97 byte && nat_le byte 122) || (nat_le 65 byte && nat_le byte 90)
    || (nat_le 48 byte && nat_le byte 57) || list_any (λ sign. byte == sign) (codes "<>`'")

abbrev pub SpelledSymbol : ℕ → List ℕ → Type 0
SpelledSymbol byte text =
    ((text ≡ byte ∷ []) × (is_special byte ≡ false))
    ⊎ ((text ≡ 92 ∷ byte ∷ []) × (is_reserved byte ≡ false))

abbrev pub item_text : Item → List ℕ
item_text (One byte) = byte ∷ []
item_text (Range first last) = first ∷ 45 ∷ last ∷ []

abbrev pub items_text : List Item → List ℕ
items_text [] = []
items_text (item ∷ items) = item_text item ++ items_text items

abbrev pub negation_text : Bool → List ℕ
negation_text true = 94 ∷ []
negation_text false = []

-- a `]` ends the class, unless it stands first
abbrev pub begins_with_bracket : Item → Bool
begins_with_bracket item = slice_index (item_text item) 0 == 93

abbrev pub SpelledBracket : Bool → Item → List Item → List ℕ → Type 0
SpelledBracket negated first others text =
    (text ≡ 91 ∷ (negation_text negated ++ (item_text first ++ (items_text others ++ 93 ∷ []))))
    × IsTrue (list_all (λ item. not (begins_with_bracket item)) others)

-- a `^` and any further ones, or a `$` and any further ones
abbrev pub SpelledAnchor : ℕ → List ℕ → Type 0
SpelledAnchor sign text =
    (more : List ℕ) × (text ≡ sign ∷ more) × IsTrue (list_all (λ byte. byte == sign) more)

-- the numbers by 1 to 9 digits
abbrev pub SpelledRepeats : Repeats → List ℕ → Type 0
SpelledRepeats Any text = text ≡ 42 ∷ []
SpelledRepeats More text = text ≡ 43 ∷ []
SpelledRepeats Optional text = text ≡ 63 ∷ []
SpelledRepeats (Between low high) text =
    ((digits : List ℕ) × (text ≡ 123 ∷ (digits ++ 125 ∷ []))
    × (number_of 9 digits ≡ Some low) × (low ≡ high))
    ⊎ ((lows highs : List ℕ) × (text ≡ 123 ∷ (lows ++ 44 ∷ (highs ++ 125 ∷ [])))
    × (number_of 9 lows ≡ Some low) × (number_of 9 highs ≡ Some high))
SpelledRepeats (AtLeast low) text =
    (digits : List ℕ) × (text ≡ 123 ∷ (digits ++ 44 ∷ 125 ∷ [])) × (number_of 9 digits ≡ Some low)

abbrev pub Spelled : Expression → List ℕ → Type 0
Spelled blank text = text ≡ []
Spelled (symbol byte) text = SpelledSymbol byte text
Spelled period text = text ≡ 46 ∷ []
Spelled (bracketed negated first others) text = SpelledBracket negated first others text
Spelled begin text = SpelledAnchor 94 text
Spelled end text = SpelledAnchor 36 text
Spelled (subexpression inner) text =
    (inside : List ℕ) × (text ≡ 40 ∷ (inside ++ 41 ∷ [])) × Spelled inner inside
Spelled (duplicated part repeats) text =
    (front back : List ℕ) × (text ≡ front ++ back) × Spelled part front
    × SpelledRepeats repeats back
Spelled (concatenated first second) text =
    (front back : List ℕ) × (text ≡ front ++ back) × Spelled first front × Spelled second back
Spelled (alternated first second) text =
    (front back : List ℕ) × (text ≡ front ++ 124 ∷ back) × Spelled first front
    × Spelled second back

-- the text spells an expression that patterns say
abbrev pub Spells : List ℕ → Expression → Type 0
Spells text expression = IsTrue (is_said expression) × Spelled expression text
