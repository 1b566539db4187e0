-- The lines of a command.
use Rattle.std.specs.Prelude.{◌≡◌, ℕ, IsTrue, List, [], ◌∷◌, ◌++◌, ◌⊎◌, ◌↔◌, Ok}
use Rattle.basics.specs.Symbol.{is_text}
use Rattle.pol_pattern.specs.Spelling.{Holds}
use Rattle.posix_expression.specs.Syntax.{Expression, is_said}
use Rattle.posix_expression.specs.Finding.{FindsInLine}
use Rattle.posix_expression.specs.Writing.{pattern_for}

-- the line of a command with these arguments. The command alone has none
abbrev pub IsLine : List ℕ → List ℕ → List ℕ → Type 0
IsLine name arguments line =
    ((line ≡ name) × (arguments ≡ [])) ⊎ (line ≡ name ++ 32 ∷ arguments)

-- the pattern holds the lines of a command in which the expression finds something
abbrev pub IsPatternOf : List ℕ → Expression → List ℕ → Type 0
IsPatternOf name expression pattern =
    (line : List ℕ) → IsTrue (is_text line) → Holds pattern line ↔ FindsInLine name expression line

-- it is the pattern that such an expression has
abbrev pub IsWritten : List ℕ → Expression → List ℕ → Type 0
IsWritten name expression pattern =
    IsTrue (is_said expression) × (pattern_for name expression ≡ Ok pattern)
