-- What a regular expression finds (IEEE Std 1003.1-2017, section 9.4): whether it matches some part
-- of a text, where `^` is at the text's beginning and `$` at its end.
use Rattle.std.specs.Prelude.{◌≡◌, ◌≤◌, ℕ, zero, suc, ◌==◌, Bool, ◌&&◌, nat_le, not}
use Rattle.std.specs.Prelude.{if◌then◌else◌, IsTrue, List, [], ◌∷◌, ◌++◌, ◌⊎◌}
use Rattle.std.specs.List.{list_any}
use Rattle.posix_expression.specs.declared.tree.Item.{Item}
use Rattle.posix_expression.specs.declared.tree.Item.TheVariants.{One, Range}
use Rattle.posix_expression.specs.declared.tree.Repeats.{Repeats}
use Rattle.posix_expression.specs.declared.tree.Repeats.TheVariants.{Any, More, Optional, Between}
use Rattle.posix_expression.specs.declared.tree.Repeats.TheVariants.{AtLeast}
use Rattle.posix_expression.specs.Syntax.{Expression, blank, symbol, period, bracketed, begin, end}
use Rattle.posix_expression.specs.Syntax.{subexpression, duplicated, concatenated, alternated}

-- the item names the symbol
abbrev pub has_symbol : ℕ → Item → Bool
has_symbol byte (One named) = byte == named
has_symbol byte (Range first last) = nat_le first byte && nat_le byte last

-- an item names the symbol, or, in a negated bracket expression, none does
abbrev pub is_among : Bool → List Item → ℕ → Bool
is_among negated items byte =
    if negated then not (list_any (has_symbol byte) items) else list_any (has_symbol byte) items

-- so often it may stand
abbrev pub Allows : Repeats → ℕ → Type 0
Allows Any count = Unit {0}
Allows More count = 1 ≤ count
Allows Optional count = count ≤ 1
Allows (Between low high) count = (low ≤ count) × (count ≤ high)
Allows (AtLeast low) count = low ≤ count

-- what fits a text, with what stands before it and after it
abbrev pub Fit : Type 1
Fit = List ℕ → List ℕ → List ℕ → Type 0

-- so many times, one after another
unfoldable pub Times : Fit → ℕ → Fit
Times fit zero before text after = text ≡ []
Times fit (suc count) before text after =
    (front back : List ℕ) × (text ≡ front ++ back) × fit before front (back ++ after)
    × Times fit count (before ++ front) back after

-- the expression matches the text, where this stands before it and that after it
abbrev pub Matches : Expression → Fit
Matches blank before text after = text ≡ []
Matches (symbol byte) before text after = text ≡ byte ∷ []
Matches period before text after = (byte : ℕ) × (text ≡ byte ∷ [])
Matches (bracketed negated first others) before text after =
    (byte : ℕ) × (text ≡ byte ∷ []) × IsTrue (is_among negated (first ∷ others) byte)
Matches begin before text after = (text ≡ []) × (before ≡ [])
Matches end before text after = (text ≡ []) × (after ≡ [])
Matches (subexpression inner) before text after = Matches inner before text after
Matches (duplicated part repeats) before text after =
    (count : ℕ) × Allows repeats count × Times (Matches part) count before text after
Matches (concatenated first second) before text after =
    (front back : List ℕ) × (text ≡ front ++ back) × Matches first before front (back ++ after)
    × Matches second (before ++ front) back after
Matches (alternated first second) before text after =
    Matches first before text after ⊎ Matches second before text after

-- the expression finds something in the text
abbrev pub Finds : Expression → List ℕ → Type 0
Finds expression whole =
    (before text after : List ℕ) × (whole ≡ before ++ (text ++ after))
    × Matches expression before text after

-- a line is of the command, and the expression finds something in its arguments, joined by blanks.
-- A line that is the command alone has none
abbrev pub FindsInLine : List ℕ → Expression → List ℕ → Type 0
FindsInLine name expression line =
    ((line ≡ name) × Finds expression [])
    ⊎ ((arguments : List ℕ) × (line ≡ name ++ 32 ∷ arguments) × Finds expression arguments)
