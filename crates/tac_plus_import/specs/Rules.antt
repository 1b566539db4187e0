-- When rules of a policy say what a block of tac_plus decides.
use Rattle.std.specs.Prelude.{◌≡◌, ℕ, Bool, true, false, IsTrue, List, [], ◌∷◌}
use Rattle.std.specs.Prelude.{Option, Some, None, if◌then◌else◌}
use Rattle.basics.specs.Symbol.{is_text}
use Rattle.pol_names.specs.declared.decision.Verdict.{Verdict}
use Rattle.pol_names.specs.declared.decision.Verdict.TheVariants.{Permit, Deny}
use Rattle.pol_pattern.specs.Matching.{matches}
use Rattle.tac_plus_file.specs.declared.configuration.Rule.{Rule}
use Rattle.tac_plus_import.specs.declared.block.PolicyRule.{PolicyRule}
use Rattle.tac_plus_import.specs.Blocks.{Answers, Permits, cautious}
use Rattle.tac_plus_import.specs.Lines.{IsLine}

-- what rules of a policy decide of a line: the first whose pattern holds it
abbrev pub decided : List PolicyRule → List ℕ → Option Verdict
decided [] line = None
decided (rule ∷ rules) line =
    if matches rule.pattern line then Some rule.verdict else decided rules line

-- where a block is closed, lines are denied that none of its rules answers; else they are left to
-- what comes after it
abbrev pub closed : Bool → Option Verdict → Option Verdict
closed false answer = answer
closed true None = Some Deny
closed true (Some verdict) = Some verdict

-- Rules of a policy say what a block says about its command: of that one's lines they decide what
-- the block answers, and of others nothing.
pub record Says (name : List ℕ) (block : List Rule) (is_closed : Bool) (rules : List PolicyRule)
    : Type 0 where
  pub lines : (line arguments : List ℕ) → IsTrue (is_text line) → IsLine name arguments line
      → (answer : Option Verdict) × Answers name cautious block arguments answer
      × (decided rules line ≡ closed is_closed answer)
  pub only : (line : List ℕ) (verdict : Verdict) → IsTrue (is_text line)
      → decided rules line ≡ Some verdict → (arguments : List ℕ) × IsLine name arguments line

-- they permit no line that the block doesn't permit
abbrev pub PermitsNoMore : List ℕ → List Rule → List PolicyRule → Type 0
PermitsNoMore name block rules =
    (line : List ℕ) → IsTrue (is_text line) → decided rules line ≡ Some Permit
    → (arguments : List ℕ) × IsLine name arguments line × Permits name cautious block arguments
