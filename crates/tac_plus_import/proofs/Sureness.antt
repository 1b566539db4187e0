-- When what a block answers doesn't depend on what can't be said.
use Rattle.std.proofs.Common.{◌≡◌, inl, inr, ℕ, List, ◌∷◌, Option, Some, sym, subst}
use Rattle.pol_names.specs.declared.decision.Verdict.{Verdict}
use Rattle.posix_expression.specs.Syntax.{Expression}
use Rattle.posix_expression.specs.Finding.{Finds}
use Rattle.tac_plus_file.specs.declared.configuration.Rule.{Rule}
use Rattle.tac_plus_import.specs.Blocks.{said, Guess, FoundBy, Found, Answers, cautious, IsSure}

-- what a rule finds that is said doesn't depend on it
same_found : (name : List ℕ) (guess other : Guess) (rule : Rule) (found : Expression × List ℕ) (arguments : List ℕ) → said name rule.expression ≡ Some found
    → Found name guess rule arguments → Found name other rule arguments
same_found name guess other rule found arguments is h =
    subst (λ (o : Option (Expression × List ℕ)). FoundBy o (other rule arguments) arguments) (sym is)
    (subst (λ (o : Option (Expression × List ℕ)). FoundBy o (guess rule arguments) arguments) is h)

one_way : (name : List ℕ) (guess other : Guess) (rule : Rule) (rules : List Rule) (found : Expression × List ℕ) (arguments : List ℕ) (answer : Option Verdict)
    → said name rule.expression ≡ Some found → (Answers name guess rules arguments answer → Answers name other rules arguments answer)
    → Answers name guess (rule ∷ rules) arguments answer → Answers name other (rule ∷ rules) arguments answer
one_way name guess other rule rules found arguments answer is later (inl here) = inl (same_found name guess other rule found arguments is here.0, here.1)
one_way name guess other rule rules found arguments answer is later (inr rest) = inr ((λ h. rest.0 (same_found name other guess rule found arguments is h)), later rest.1)

pub sure_more : (name : List ℕ) (rule : Rule) (rules : List Rule) (found : Expression × List ℕ) → said name rule.expression ≡ Some found → IsSure name rules → IsSure name (rule ∷ rules)
sure_more name rule rules found is sure guess arguments answer = (
  one_way name guess cautious rule rules found arguments answer is (sure guess arguments answer).0,
  one_way name cautious guess rule rules found arguments answer is (sure guess arguments answer).1,
)

-- a rule that finds something everywhere leaves nothing to those after it
found_all : (name : List ℕ) (guess other : Guess) (rule : Rule) (rules : List Rule) (found : Expression × List ℕ) (arguments : List ℕ) (answer : Option Verdict)
    → said name rule.expression ≡ Some found → Finds found.0 arguments → Answers name guess (rule ∷ rules) arguments answer → Answers name other (rule ∷ rules) arguments answer
found_all name guess other rule rules found arguments answer is all (inl here) = inl (same_found name guess other rule found arguments is here.0, here.1)
found_all name guess other rule rules found arguments answer is all (inr rest) =
    absurd (rest.0 (subst (λ (o : Option (Expression × List ℕ)). FoundBy o (guess rule arguments) arguments) (sym is) all))

pub sure_all : (name : List ℕ) (rule : Rule) (rules : List Rule) (found : Expression × List ℕ) → said name rule.expression ≡ Some found → ((arguments : List ℕ) → Finds found.0 arguments)
    → IsSure name (rule ∷ rules)
sure_all name rule rules found is all guess arguments answer = (
  found_all name guess cautious rule rules found arguments answer is (all arguments),
  found_all name cautious guess rule rules found arguments answer is (all arguments),
)
