-- The rules of a policy that a block becomes, before any are joined, and when joined ones decide
-- alike. Only contracts of private functions cite these.
use Rattle.std.specs.Prelude.{◌≡◌, ◌⊎◌, ℕ, ◌-◌, nat_lt, Bool, true, false, IsTrue, List, []}
use Rattle.std.specs.Prelude.{◌∷◌, ◌++◌, length, take, Option, Some, None}
use Rattle.basics.specs.Symbol.{is_text}
use Rattle.pol_names.specs.declared.decision.Verdict.{Verdict}
use Rattle.pol_names.specs.declared.decision.Verdict.TheVariants.{Permit, Deny}
use Rattle.posix_expression.specs.Gathered.{lacks}
use Rattle.posix_expression.specs.Syntax.{Expression}
use Rattle.tac_plus_file.specs.declared.configuration.Rule.{Rule}
use Rattle.tac_plus_import.specs.declared.block.Block.{Block}
use Rattle.tac_plus_import.specs.declared.block.PolicyRule.{PolicyRule}
use Rattle.tac_plus_import.specs.declared.block.Sought.{Sought}
use Rattle.tac_plus_import.specs.declared.draft.Draft.{Draft}
use Rattle.tac_plus_import.specs.Blocks.{said, IsSure}
use Rattle.tac_plus_import.specs.Drafts.{Keeps, told}
use Rattle.tac_plus_import.specs.Lines.{IsLine}
use Rattle.tac_plus_import.specs.Rules.{decided}

-- both decide each line alike
abbrev pub DecideAlike : List PolicyRule → List PolicyRule → Type 0
DecideAlike first second =
    (line : List ℕ) → IsTrue (is_text line) → decided first line ≡ decided second line

-- they decide each line of a command
abbrev pub DecideAll : List ℕ → List PolicyRule → Type 0
DecideAll name rules =
    (line arguments : List ℕ) → IsTrue (is_text line) → IsLine name arguments line
    → (verdict : Verdict) × (decided rules line ≡ Some verdict)

abbrev pub of_verdict : Verdict → List ℕ → PolicyRule
of_verdict verdict pattern = record { verdict = verdict; pattern = pattern }

abbrev pub plain_rule : Option (Expression × List ℕ) → List ℕ → Verdict → List PolicyRule
plain_rule (Some found) any_line verdict = of_verdict verdict found.1 ∷ []
plain_rule None any_line Permit = []
plain_rule None any_line Deny = of_verdict Deny any_line ∷ []

-- a rule for each that can be said, and for each that denies and can't, one that denies all lines
-- of the command
abbrev pub plain : List ℕ → List ℕ → List Rule → List PolicyRule
plain name any_line [] = []
plain name any_line (rule ∷ rules) =
    plain_rule (said name rule.expression) any_line rule.verdict ++ plain name any_line rules

abbrev pub last_of : Option Sought → List PolicyRule
last_of None = []
last_of (Some sought) = sought.rule ∷ []

-- all rules of a block, with the last
abbrev pub listed : Block → List PolicyRule
listed block = block.rules.items ++ last_of block.last

-- denies all lines of a command, if that is wanted
abbrev pub denial : Bool → List ℕ → List PolicyRule
denial false any_line = []
denial true any_line = of_verdict Deny any_line ∷ []

-- it is still about the same command
abbrev pub IsAbout : Block → Block → Type 0
IsAbout before after = (after.name ≡ before.name) × (after.any_line ≡ before.any_line)

-- there are more than the subject may have besides those that it has
abbrev pub is_over : Draft → List PolicyRule → Bool
is_over draft rules = nat_lt (255 - draft.rules) (length rules)

-- as far as the subject may have them, both are the same
abbrev pub AreSoFar : Draft → List PolicyRule → List PolicyRule → Type 0
AreSoFar draft first second =
    (first ≡ second)
    ⊎ (IsTrue (is_over draft first) × IsTrue (is_over draft second)
    × (take (255 - draft.rules) first ≡ take (255 - draft.rules) second))

-- The rules of a block were added, and whether they decide all lines of the command. Once there are
-- more than the subject may have, some may be missing.
pub record AreAdded (was now : Draft) (early late : Block) (rules : List Rule) (decide_all : Bool)
    : Type 0 where
  pub about : IsAbout early late
  pub keeps : Keeps was now
  pub part : (missing : List PolicyRule) × DecideAlike (listed late ++ missing)
      (listed early ++ plain early.name early.any_line rules)
  pub all : decide_all ≡ true → DecideAll early.name (listed late)
  pub exact : is_over was late.rules.items ≡ false
      → DecideAlike (listed late) (listed early ++ plain early.name early.any_line rules)
  pub sure : is_over was late.rules.items ≡ false → was.is_quiet ≡ false
      → lacks now.policy ≡ false → told now ≡ told was → IsSure early.name rules
