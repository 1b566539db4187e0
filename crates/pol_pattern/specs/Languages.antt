-- Patterns that are put together of patterns, and the sets of texts that they hold, in the words of
-- automata theory.
use Rattle.std.specs.Prelude.{◌≡◌, ◌≤◌, ℕ, zero, suc, Bool, true, not, if◌then◌else◌, List, []}
use Rattle.std.specs.Prelude.{◌∷◌, ◌++◌, ◌⊎◌, ◌↔◌, Some, IsOk, IsTrue, IsFalse}
use Rattle.std.specs.List.{list_any}
use Rattle.basics.specs.Symbol.{is_symbol}
use Rattle.pol_pattern.specs.Sets.{Joins}
use Rattle.pol_pattern.specs.Spelling.{Item, bracket, atom_bytes, is_special, is_right_atom, names}
use Rattle.pol_pattern.specs.Spelling.{exactly, between, suffix_bytes, exact_counts, range_counts}
use Rattle.pol_pattern.specs.Spelling.{Holds}
use Rattle.pol_pattern.specs.Reading.{reading}
use Rattle.pol_pattern.specs.declared.version.Version.TheVariants.{Two}

-- ---- sets of texts

abbrev pub Union : (List ℕ → Type 0) → (List ℕ → Type 0) → List ℕ → Type 0
Union P Q text = P text ⊎ Q text

abbrev pub Concatenation : (List ℕ → Type 0) → (List ℕ → Type 0) → List ℕ → Type 0
Concatenation P Q text = (front back : List ℕ) × (text ≡ front ++ back) × P front × Q back

abbrev pub Star : (List ℕ → Type 0) → List ℕ → Type 0
Star P = Joins P

-- the empty text alone
abbrev pub Empty : List ℕ → Type 0
Empty text = text ≡ []

-- so many texts of the set, one after another
unfoldable pub Power : (List ℕ → Type 0) → ℕ → List ℕ → Type 0
Power P zero = Empty
Power P (suc count) = Concatenation P (Power P count)

-- the union of the powers from the lower to the higher
abbrev pub Powers : (List ℕ → Type 0) → ℕ → ℕ → List ℕ → Type 0
Powers P low high text = (count : ℕ) × (low ≤ count) × (count ≤ high) × Power P count text

-- the texts of one symbol for which the test is true
abbrev pub OneSymbol : (ℕ → Bool) → List ℕ → Type 0
OneSymbol test text =
    (symbol : ℕ) × (text ≡ symbol ∷ []) × IsTrue (is_symbol symbol) × IsTrue (test symbol)

-- ---- patterns put together

abbrev pub IsPattern : List ℕ → Type 0
IsPattern source = IsOk (reading source)

-- the pattern in parentheses
abbrev pub grouped : List ℕ → List ℕ
grouped source = 40 ∷ (source ++ 41 ∷ [])

-- p|q
abbrev pub UnionLaw : Type 0
UnionLaw =
    (p q text : List ℕ) → IsPattern p → IsPattern q → IsPattern (p ++ 124 ∷ q)
    → Holds (p ++ 124 ∷ q) text ↔ Union (Holds p) (Holds q) text

-- (p)(q)
abbrev pub ConcatenationLaw : Type 0
ConcatenationLaw =
    (p q text : List ℕ) → IsPattern p → IsPattern q → IsPattern (grouped p ++ grouped q)
    → Holds (grouped p ++ grouped q) text ↔ Concatenation (Holds p) (Holds q) text

-- (p)*
abbrev pub StarLaw : Type 0
StarLaw =
    (p text : List ℕ) → IsPattern p → IsPattern (grouped p ++ 42 ∷ [])
    → Holds (grouped p ++ 42 ∷ []) text ↔ Star (Holds p) text

-- (p)+
abbrev pub PlusLaw : Type 0
PlusLaw =
    (p text : List ℕ) → IsPattern p → IsPattern (grouped p ++ 43 ∷ [])
    → Holds (grouped p ++ 43 ∷ []) text ↔ Concatenation (Holds p) (Star (Holds p)) text

-- (p)?
abbrev pub QuestionLaw : Type 0
QuestionLaw =
    (p text : List ℕ) → IsPattern p → IsPattern (grouped p ++ 63 ∷ [])
    → Holds (grouped p ++ 63 ∷ []) text ↔ Union (Holds p) Empty text

-- (p){m}
abbrev pub PowerLaw : Type 0
PowerLaw =
    (p digits text : List ℕ) (count : ℕ) → exact_counts digits ≡ Some (count, count)
    → IsPattern p → IsPattern (grouped p ++ suffix_bytes (exactly digits))
    → Holds (grouped p ++ suffix_bytes (exactly digits)) text ↔ Power (Holds p) count text

-- (p){m,n}
abbrev pub PowersLaw : Type 0
PowersLaw =
    (p lows highs text : List ℕ) (low high : ℕ) → range_counts lows highs ≡ Some (low, high)
    → IsPattern p → IsPattern (grouped p ++ suffix_bytes (between lows highs))
    → Holds (grouped p ++ suffix_bytes (between lows highs)) text
    ↔ Powers (Holds p) low high text

-- (p)
abbrev pub GroupLaw : Type 0
GroupLaw =
    (p text : List ℕ) → IsPattern p → IsPattern (grouped p) → Holds (grouped p) text ↔ Holds p text

-- ---- patterns of no parts

-- the empty pattern
abbrev pub EmptyLaw : Type 0
EmptyLaw = (text : List ℕ) → Holds [] text ↔ Empty text

-- a symbol that represents itself
abbrev pub LiteralLaw : Type 0
LiteralLaw =
    (symbol : ℕ) (text : List ℕ) → IsTrue (is_symbol symbol) → IsFalse (is_special Two symbol)
    → Holds (symbol ∷ []) text ↔ (text ≡ symbol ∷ [])

-- a `\` and a symbol
abbrev pub EscapedLaw : Type 0
EscapedLaw =
    (symbol : ℕ) (text : List ℕ) → IsTrue (is_symbol symbol) → Holds (92 ∷ symbol ∷ []) text
    ↔ (text ≡ symbol ∷ [])

-- .
abbrev pub DotLaw : Type 0
DotLaw = (text : List ℕ) → Holds (46 ∷ []) text ↔ OneSymbol (λ symbol. true) text

-- the symbol is one that the class names, or, in a negated class, one that it doesn't name
abbrev pub is_in_bracket : Bool → List Item → ℕ → Bool
is_in_bracket negated items symbol =
    if negated then not (list_any (names symbol) items) else list_any (names symbol) items

-- a class with its items
abbrev pub ClassLaw : Type 0
ClassLaw =
    (negated : Bool) (first : Item) (others : List Item) (text : List ℕ)
    → IsTrue (is_right_atom Two (bracket negated first others))
    → IsPattern (atom_bytes (bracket negated first others))
    → Holds (atom_bytes (bracket negated first others)) text
    ↔ OneSymbol (is_in_bracket negated (first ∷ others)) text

-- ---- all of them

pub record LanguageLaws : Type 0 where
  pub union : UnionLaw
  pub concatenation : ConcatenationLaw
  pub star : StarLaw
  pub plus : PlusLaw
  pub question : QuestionLaw
  pub power : PowerLaw
  pub powers : PowersLaw
  pub group : GroupLaw
  pub empty : EmptyLaw
  pub literal : LiteralLaw
  pub escaped : EscapedLaw
  pub dot : DotLaw
  pub class : ClassLaw
