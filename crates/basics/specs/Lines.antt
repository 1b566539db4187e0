-- Lines of a text, and the parts round a separator.
use Rattle.std.specs.Prelude.{◌≡◌, ◌≢◌, ◌⊎◌, ℕ, List, [], ◌∷◌, ◌++◌, ◌==◌, Option, Some, None}
use Rattle.std.specs.Prelude.{if◌then◌else◌}
use Rattle.std.specs.Option.{option_map}

-- what stands before the first separator, and what stands after it; nothing without a separator
abbrev pub split_at_first : ℕ → List ℕ → Option (List ℕ × List ℕ)
split_at_first separator [] = None
split_at_first separator (byte ∷ bytes) =
    if byte == separator then Some ([], bytes)
    else option_map (λ parts. (byte ∷ parts.0, parts.1)) (split_at_first separator bytes)

-- a byte put before the first line
abbrev pub onto_first : ℕ → List (List ℕ) → List (List ℕ)
onto_first byte [] = (byte ∷ []) ∷ []
onto_first byte (line ∷ lines) = (byte ∷ line) ∷ lines

-- the lines of a text: each ends in LF, which the last may lack
abbrev pub lines_of : List ℕ → List (List ℕ)
lines_of [] = []
lines_of (byte ∷ bytes) =
    if byte == 10 then [] ∷ lines_of bytes else onto_first byte (lines_of bytes)

-- a text without the spaces that it begins with
abbrev pub without_leading_spaces : List ℕ → List ℕ
without_leading_spaces [] = []
without_leading_spaces (byte ∷ bytes) =
    if byte == 32 then without_leading_spaces bytes else byte ∷ bytes

-- lines that are still to be read, of which the first has this number
pub record Unread : Type 0 where
  pub number : ℕ
  pub text : List ℕ
  pub lines : List (List ℕ)

-- a text from its first line on: the line, its LF, and the rest; the last line may lack its LF
abbrev pub BeginsWith : List ℕ → List ℕ → List ℕ → Type 0
BeginsWith text line rest = (text ≡ line ++ 10 ∷ rest) ⊎ ((text ≡ line) × (rest ≡ []) × (text ≢ []))

-- the same of lines: none follows the last
abbrev pub TakesLine : Unread → List ℕ → Unread → Type 0
TakesLine old line new =
    (old.text ≡ line ++ 10 ∷ new.text) ⊎ ((old.text ≡ line) × (new.text ≡ []) × (new.lines ≡ [])
    × (old.text ≢ []))
