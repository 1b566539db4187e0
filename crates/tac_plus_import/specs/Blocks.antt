-- What a block `cmd = NAME { .. }` of tac_plus decides. Its expressions are searched for in the
-- arguments, joined by blanks, one after another. The first that finds something decides, and where
-- none does, the command is denied.
use Rattle.std.specs.Prelude.{◌≡◌, ℕ, Bool, true, false, IsTrue, List, [], ◌∷◌, ◌⊎◌, ◌↔◌}
use Rattle.std.specs.Prelude.{Option, Some, None, Result, Ok, Err}
use Rattle.pol_names.specs.declared.decision.Verdict.{Verdict}
use Rattle.pol_names.specs.declared.decision.Verdict.TheVariants.{Permit, Deny}
use Rattle.posix_expression.specs.Syntax.{Expression}
use Rattle.posix_expression.specs.Finding.{Finds}
use Rattle.posix_expression.specs.Reading.{reading}
use Rattle.posix_expression.specs.Writing.{pattern_for}
use Rattle.posix_expression.specs.declared.unsaid.Unsaid.{Unsaid}
use Rattle.tac_plus_file.specs.declared.configuration.Rule.{Rule}

-- ---- which expressions a policy can say

abbrev pub with_pattern : Expression → Result (List ℕ) Unsaid → Option (Expression × List ℕ)
with_pattern expression (Ok pattern) = Some (expression, pattern)
with_pattern expression (Err why) = None

abbrev pub said_in : List ℕ → Result Expression Unsaid → Option (Expression × List ℕ)
said_in name (Ok expression) = with_pattern expression (pattern_for name expression)
said_in name (Err why) = None

-- what a text searches for in the arguments of a command, and the pattern of the lines in which it
-- finds something; none where a policy can't say it
abbrev pub said : List ℕ → List ℕ → Option (Expression × List ℕ)
said name text = said_in name (reading text)

-- ---- what a block decides

-- What an expression finds that a policy can't say, nothing here knows. So it is left open: any
-- test of a rule and of arguments may stand for it.
abbrev pub Guess : Type 0
Guess = Rule → List ℕ → Bool

abbrev pub FoundBy : Option (Expression × List ℕ) → Bool → List ℕ → Type 0
FoundBy (Some found) guessed arguments = Finds found.0 arguments
FoundBy None guessed arguments = IsTrue guessed

-- the expression of a rule finds something in the arguments
abbrev pub Found : List ℕ → Guess → Rule → List ℕ → Type 0
Found name guess rule arguments =
    FoundBy (said name rule.expression) (guess rule arguments) arguments

-- the first rule whose expression finds something in the arguments answers by its verdict; none
-- answers where none finds anything
abbrev pub Answers : List ℕ → Guess → List Rule → List ℕ → Option Verdict → Type 0
Answers name guess [] arguments answer = answer ≡ None
Answers name guess (rule ∷ rules) arguments answer =
    (Found name guess rule arguments × (answer ≡ Some rule.verdict))
    ⊎ ((Found name guess rule arguments → ⊥) × Answers name guess rules arguments answer)

-- a block permits arguments where the answer is to permit. It denies all others, also where none of
-- its rules answers
abbrev pub Permits : List ℕ → Guess → List Rule → List ℕ → Type 0
Permits name guess rules arguments = Answers name guess rules arguments (Some Permit)

-- ---- the guess by which nobody gains a line

abbrev pub is_deny : Verdict → Bool
is_deny Permit = false
is_deny Deny = true

-- what can't be said finds nothing where it permits, and everything where it denies
abbrev pub cautious : Guess
cautious rule arguments = is_deny rule.verdict

-- what is permitted by this guess is permitted whatever the expressions find that can't be said
abbrev pub CautiousLaw : Type 0
CautiousLaw =
    (name : List ℕ) (guess : Guess) (rules : List Rule) (arguments : List ℕ)
    → Permits name cautious rules arguments → Permits name guess rules arguments

-- an answer doesn't depend on what the expressions find that can't be said
abbrev pub IsSure : List ℕ → List Rule → Type 0
IsSure name rules =
    (guess : Guess) (arguments : List ℕ) (answer : Option Verdict)
    → Answers name guess rules arguments answer ↔ Answers name cautious rules arguments answer
